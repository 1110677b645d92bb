-- What is claimed of what is read of variables.
use Rattle.std.specs.Prelude.{ℕ, List, Some, ◌≡◌}
use Rattle.herm_model.specs.Lists.{IsIn}
use Rattle.herm_model.specs.Paths.{Path}
use Rattle.herm_model.specs.Typed.{HaveTypes}
use Rattle.herm_model.specs.Types.{TypeTable, type_at}
use Rattle.herm_model.specs.Values.{Name, Cell, kind_of, Parts, read_at}
use Rattle.herm_journal.specs.PartTypes.{each}
use Rattle.herm_system.specs.Kinds.{typed_in}

-- What is read at a path of variables that have these types has the path's type, and stands among the cells at places of theirs.
-- Language reference, "Sound states".
abbrev pub ReadsStandTyped : Type 0
ReadsStandTyped = (table : TypeTable) (types : List ℕ) (p : Path) (variables : Parts Name) (c : Cell Name) → HaveTypes table types variables → read_at p variables ≡ Some c
    → (t : ℕ) × (type_at table types p ≡ Some t) × IsIn (t, kind_of c) (typed_in table (each types) variables)
