-- What is proved of the list of refusals.
use Rattle.std.specs.Prelude.{List, [], ◌≡◌}
use Rattle.herm_meaning.specs.Names.{NamedTable, IsWellNamed}
use Rattle.herm_meaning.specs.Items.{Placed}
use Rattle.herm_meaning.specs.Meaning.{outline, meaning}
use Rattle.herm_meaning.specs.Marks.{Place}
use Rattle.herm_meaning.specs.DefinitionFaults.{Fault, AreFaults, AreFaultsOf}

-- Places have one list of faults at most.
abbrev pub HasOneList : Type 0
HasOneList = (table : NamedTable) (places : List Place) (faults others : List Fault) → AreFaults table places faults → AreFaults table places others → faults ≡ others

-- Definitions without a fault mean a table that keeps the rules of definitions. Language reference, "Rules of definitions".
abbrev pub FaultlessIsWellNamed : Type 0
FaultlessIsWellNamed = (items : List Placed) → AreFaultsOf items [] → IsWellNamed (meaning items)

-- And so does their outline, which has no keys and no facts.
abbrev pub FaultlessHasOutline : Type 0
FaultlessHasOutline = (items : List Placed) → AreFaultsOf items [] → IsWellNamed (outline items)
