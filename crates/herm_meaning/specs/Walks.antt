-- Paths of names through record fields, and the facts that they are written in.
use Rattle.std.specs.Prelude.{ℕ, List, [], ◌∷◌, slice_get}
use Rattle.std.specs.Str.{bytes_eq}
use Rattle.std.specs.List.{position_or_len}
use Rattle.herm_model.specs.Lists.{map_or}
use Rattle.herm_model.specs.WellFormedTables.{field_type}
use Rattle.herm_syntax.specs.Trees.{Letters}
use Rattle.herm_meaning.specs.Names.{NamedTable}

-- The place of a name among others, of which the first counts; their number where it is not there.
abbrev pub place_of : List Letters → Letters → ℕ
place_of names name = position_or_len (bytes_eq name) names

-- the names of the parts of a type
abbrev pub parts_of : NamedTable → ℕ → List Letters
parts_of table t = map_or [] (λ ps. ps) (slice_get table.parts t)

-- What comes of following names of fields from a type: the type at the end with the places of the fields on the way,
-- or a type on the way that has no such field, or one that is unknown.
pub data Walked : Type 0 where
  ended : (places : List ℕ) → (t : ℕ) → Walked
  left_fields : Walked
  met_unknown : Walked

abbrev pub further : ℕ → Walked → Walked
further i (ended places t) = ended (i ∷ places) t
further i left_fields = left_fields
further i met_unknown = met_unknown

-- Language reference, "Declared facts".
abbrev pub walk : NamedTable → ℕ → List Letters → Walked
walk table t [] = ended [] t
walk table t (name ∷ p) =
    let i = place_of (parts_of table t) name in
    map_or met_unknown (λ s. map_or left_fields (λ u. further i (walk table u p)) (field_type s i)) (slice_get table.shapes t)

-- the same for a path of one field at least
abbrev pub walk_fields : NamedTable → ℕ → List Letters → Walked
walk_fields table t [] = left_fields
walk_fields table t (name ∷ p) = walk table t (name ∷ p)

-- what a function makes of the end of a path that leads there
abbrev pub at_end : {X : Type 0} → Walked → (List ℕ → ℕ → List X) → List X
at_end (ended places t) f = f places t
at_end left_fields f = []
at_end met_unknown f = []
