-- The second phase: the types that the files' definitions mean, or their faults (Language reference, "Refusals of definitions").
use Rattle.std.specs.Prelude.{◌≡◌, ℕ, List, [], map}
use Rattle.herm_syntax.specs.declared.modules.Module.{Module}
use Rattle.herm_meaning.specs.Names.{NamedTable}
use Rattle.herm_meaning.specs.Items.{items_of}
use Rattle.herm_meaning.specs.Meaning.{meaning}
use Rattle.herm_meaning.specs.DefinitionFaults.{rank, Fault as Wrong, AreFaultsOf}
use Rattle.herm_compile.specs.FirstPhase.{HaveModules}
use Rattle.herm_compile.specs.View.{Seen, fault_view}
use Rattle.herm_compile.specs.Spots.{spot_fault}
use Rattle.herm_refusals.specs.declared.fault.Fault.{Fault}
use Rattle.herm_compile.specs.RefusalWords.{definition_words}

-- the fault of a definition, at the name where it stands
abbrev pub definition_fault : List (List ℕ) → (owners : List ℕ) → Wrong → Seen
definition_fault files owners f = spot_fault files owners f.module' f.span.start (rank f.code) (definition_words f.code)

-- The definitions of these modules have no fault, and mean this table (Language reference, "Types").
pub record AreTypesOf (modules : List Module) (table : NamedTable) : Type 0 where
  pub right : AreFaultsOf (items_of modules) []
  pub meant : table ≡ meaning (items_of modules)

-- The definitions of the files' modules have no fault, and mean this table.
pub record HaveTypes (files : List (List ℕ)) (table : NamedTable) : Type 0 where
  pub modules : List Module
  pub owners : List ℕ
  pub read : HaveModules 0 files modules owners
  pub are : AreTypesOf modules table

-- The files' definitions have faults, which are these in the order of the text.
pub record AreMisdefined (files : List (List ℕ)) (faults : List Fault) : Type 0 where
  pub modules : List Module
  pub owners : List ℕ
  pub read : HaveModules 0 files modules owners
  pub list : List Wrong
  pub are : AreFaultsOf (items_of modules) list
  pub some : list ≡ [] → ⊥
  pub each : map fault_view faults ≡ map (definition_fault files owners) list
