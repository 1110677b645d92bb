-- The fourth phase: what the statements of the program's processes lack. Language reference, "Refusals of typestate".
use Rattle.std.specs.Prelude.{◌≡◌, ◌≢◌, ℕ, suc, Bool, true, false, cond, Some, List, [], ◌∷◌, ◌++◌, map, length, get_or}
use Rattle.herm_syntax.specs.declared.modules.Module.{Module}
use Rattle.herm_syntax.specs.declared.modules.Module.TheVariants.{Definitions, Process}
use Rattle.herm_meaning.specs.Names.{NamedTable}
use Rattle.herm_resolve.specs.declared.program.Program.{Program}
use Rattle.herm_resolve.specs.Refused.{AreRefusalsOf, IsProgramOf}
use Rattle.herm_model.specs.TypedPrograms.{IsTypedProgram}
use Rattle.herm_typed.specs.View.{typed_process_view}
use Rattle.herm_accept.specs.Lacking.{Lacking, AreLacking}
use Rattle.herm_compile.specs.FirstPhase.{HaveModules}
use Rattle.herm_compile.specs.SecondPhase.{AreTypesOf}
use Rattle.herm_compile.specs.View.{Seen, fault_view}
use Rattle.herm_compile.specs.Spots.{spot_fault}
use Rattle.herm_refusals.specs.declared.fault.Fault.{Fault}

abbrev pub is_process : Module → Bool
is_process (Definitions name items) = false
is_process (Process name port vars body) = true

-- the numbers of the modules that are processes, where the first has this number
abbrev pub process_modules : ℕ → List Module → List ℕ
process_modules number [] = []
process_modules number (m ∷ modules) = cond (is_process m) (number ∷ []) [] ++ process_modules (suc number) modules

-- a missing fact, at the first token of its statement in the module of its process
abbrev pub missing_fault : List (List ℕ) → (owners blocks : List ℕ) → Lacking → Seen
missing_fault files owners blocks l = record (spot_fault files owners (get_or blocks l.process 0) l.start 13 l.words) { missing = Some l.refusal }

-- Modules mean these types and this program, and have no fault of either; the program is typed.
pub record IsMeant (modules : List Module) (types : NamedTable) (program : Program) : Type 0 where
  pub defined : AreTypesOf modules types
  pub right : AreRefusalsOf types modules []
  pub means : IsProgramOf types modules program
  pub typed : IsTypedProgram (length types.exceptions) types.shapes (map typed_process_view program.processes.items) program.main

-- The files' modules mean this program, in which statements lack facts; these are all, by process, by statement and then in the order of needs.
pub record AreUnaccepted (files : List (List ℕ)) (faults : List Fault) : Type 0 where
  pub modules : List Module
  pub owners : List ℕ
  pub read : HaveModules 0 files modules owners
  pub table : NamedTable
  pub program : Program
  pub meant : IsMeant modules table program
  pub list : List Lacking
  pub are : AreLacking table 0 program.processes.items list
  pub some : list ≢ []
  pub each : map fault_view faults ≡ map (missing_fault files owners (process_modules 0 modules)) list
