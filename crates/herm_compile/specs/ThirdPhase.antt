-- The third phase: the program that the files' modules mean, or their faults of names and types (Language reference, "Refusals").
use Rattle.std.specs.Prelude.{◌≡◌, ℕ, List, [], map, length, codes, None}
use Rattle.herm_model.specs.Statements.{Process}
use Rattle.herm_model.specs.TypedPrograms.{IsTypedProgram}
use Rattle.herm_syntax.specs.declared.modules.Module.{Module}
use Rattle.herm_syntax.specs.View.{module_view}
use Rattle.herm_meaning.specs.Names.{NamedTable}
use Rattle.herm_naming.specs.Meaning.{meaning, main_number}
use Rattle.herm_naming.specs.StatementFaults.{Code, unknown, twice, wrong_type, not_copyable, unreachable, no_main, too_many}
use Rattle.herm_numbers.specs.Faults.{Place}
use Rattle.herm_resolve.specs.Refused.{AreRefusalsOf, HasRefusals}
use Rattle.herm_compile.specs.FirstPhase.{HaveModules}
use Rattle.herm_compile.specs.SecondPhase.{AreTypesOf}
use Rattle.herm_compile.specs.RefusalWords.{name_words}
use Rattle.herm_compile.specs.View.{Seen, fault_view}
use Rattle.herm_compile.specs.Spots.{spot_fault}
use Rattle.herm_refusals.specs.declared.fault.Fault.{Fault}

-- the number of a code
abbrev pub name_rank : Code → ℕ
name_rank unknown = 14
name_rank twice = 15
name_rank wrong_type = 16
name_rank not_copyable = 17
name_rank unreachable = 18
name_rank no_main = 19
name_rank too_many = 20

-- that there is no main, which has no place
abbrev pub main_fault : Seen
main_fault = record { file = 0; line = 0; column = 0; code = 19; words = codes "no main"; missing = None }

-- a code with its words at a place of a module
abbrev pub placed_fault : List (List ℕ) → (owners : List ℕ) → Code → Place → Seen
placed_fault files owners c place = spot_fault files owners place.0 place.1.start (name_rank c) (name_words c)

-- a fault of names and types, at the first token of the name or the statement
abbrev pub name_fault : List (List ℕ) → (owners : List ℕ) → Code × Place → Seen
name_fault files owners (unknown, place) = placed_fault files owners unknown place
name_fault files owners (twice, place) = placed_fault files owners twice place
name_fault files owners (wrong_type, place) = placed_fault files owners wrong_type place
name_fault files owners (not_copyable, place) = placed_fault files owners not_copyable place
name_fault files owners (unreachable, place) = placed_fault files owners unreachable place
name_fault files owners (too_many, place) = placed_fault files owners too_many place
name_fault files owners (no_main, place) = main_fault

-- The files' modules have no fault of names and types, and mean these processes over these types, of which one is main. They are
-- a typed program (Language reference, "Processes", "Typed programs").
pub record HaveProgram (files : List (List ℕ)) (table : NamedTable) (processes : List Process) (main : ℕ) : Type 0 where
  pub modules : List Module
  pub owners : List ℕ
  pub read : HaveModules 0 files modules owners
  pub types : AreTypesOf modules table
  pub right : AreRefusalsOf table modules []
  pub meant : processes ≡ meaning table (map module_view modules)
  pub main_is : main ≡ main_number (map module_view modules)
  pub typed : IsTypedProgram (length table.exceptions) table.shapes processes main

-- The files' modules have faults of names and types, which are these in the order of the text.
pub record AreMisnamed (files : List (List ℕ)) (faults : List Fault) : Type 0 where
  pub modules : List Module
  pub owners : List ℕ
  pub read : HaveModules 0 files modules owners
  pub table : NamedTable
  pub types : AreTypesOf modules table
  pub list : List (Code × Place)
  pub are : HasRefusals table modules list
  pub each : map fault_view faults ≡ map (name_fault files owners) list
