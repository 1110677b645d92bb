-- What is proved of texts of values whose type is not known.
use Rattle.std.specs.Prelude.{◌≡◌, ℕ, List, map, ◌++◌, IsTrue, IsFalse}
use Rattle.herm_model.specs.Lists.{all_pass}
use Rattle.herm_model.specs.Types.{TypeTable}
use Rattle.herm_model.specs.Values.{Name, Value, Cell}
use Rattle.herm_model.specs.CellNames.{forget}
use Rattle.herm_model.specs.Typed.{Degree, IsOf}
use Rattle.herm_model.specs.ValueTexts.{text_of}
use Rattle.herm_model.specs.WellMade.{is_well_made, may_go_on}

-- Two well made values, with more behind each of their texts that cannot go on with it: where the whole is the same,
-- the values and what follows are.
abbrev pub TellsWellMade : Type 0
TellsWellMade = (a b : Value) (r s : List ℕ) → IsTrue (is_well_made a) → IsTrue (is_well_made b) → IsFalse (may_go_on r) → IsFalse (may_go_on s) →
    text_of a ++ r ≡ text_of b ++ s → (a ≡ b) × (r ≡ s)

-- two lists of well made values with the same texts are the same
abbrev pub TellsWellMadeLists : Type 0
TellsWellMadeLists = (xs ys : List Value) → IsTrue (all_pass is_well_made xs) → IsTrue (all_pass is_well_made ys) → map text_of xs ≡ map text_of ys → xs ≡ ys

-- a value of a type, with all of its parts or some, is well made
abbrev pub TypedAreWellMade : Type 0 → Type 0
TypedAreWellMade N = (d : Degree) (table : TypeTable) (t : ℕ) (c : Cell N) → IsOf d table t c → IsTrue (is_well_made c)

-- names make no difference
abbrev pub ForgetsWellMade : Type 0
ForgetsWellMade = (c : Cell Name) → is_well_made (forget c) ≡ is_well_made c
