-- Definitions that are refused, with their faults.
use Rattle.std.specs.Prelude.{List, [], map, ◌≡◌}
use Rattle.herm_meaning.specs.Items.{Placed}
use Rattle.herm_meaning.specs.DefinitionFaults.{Fault, AreFaultsOf}
use Rattle.herm_defs.specs.declared.definitions.DefsFault.{DefsFault}
use Rattle.herm_defs.specs.declared.definitions.DefsFault.TheVariants.{Refused, Memory}
use Rattle.herm_defs.specs.View.{def_fault_view}

-- it holds of the faults, where there are some and memory suffices
abbrev pub IfRefused : DefsFault → (List Fault → Type 0) → Type 0
IfRefused (Refused faults) holds = holds (map def_fault_view faults.items)
IfRefused Memory holds = Unit {0}

-- they are the faults of definitions, and there is one
pub record HasFaults (items : List Placed) (faults : List Fault) : Type 0 where
  pub all : AreFaultsOf items faults
  pub some : faults ≡ [] → ⊥
