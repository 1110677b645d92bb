-- The refusals of modules at their places in the text, and the program that they mean.
use Rattle.std.specs.Prelude.{ℕ, suc, List, [], ◌∷◌, map, ◌≡◌}
use Rattle.herm_base.specs.declared.word.Name.{Name}
use Rattle.herm_syntax.specs.declared.definitions.Field.{Field}
use Rattle.herm_syntax.specs.declared.modules.Module.{Module}
use Rattle.herm_syntax.specs.declared.modules.Module.TheVariants.{Definitions, Process}
use Rattle.herm_syntax.specs.declared.statements.Stmt.{Stmt}
use Rattle.herm_syntax.specs.View.{module_view}
use Rattle.herm_meaning.specs.Names.{NamedTable}
use Rattle.herm_naming.specs.Meaning.{meaning, main_number}
use Rattle.herm_naming.specs.StatementFaults.{Code}
use Rattle.herm_naming.specs.RefusalsOfNames.{Places, AreRefusals}
use Rattle.herm_typed.specs.View.{typed_process_view}
use Rattle.herm_numbers.specs.Faults.{Place, body_spans, name_fault_view}
use Rattle.herm_numbers.specs.declared.fault.ResolveFault.{ResolveFault}
use Rattle.herm_numbers.specs.declared.fault.ResolveFault.TheVariants.{Refused, Memory}
use Rattle.herm_typed.specs.Beside.{KnowTypes}
use Rattle.herm_resolve.specs.Kept.{of_processes, names_of, names_written, numbers_of, numbers_written}
use Rattle.herm_resolve.specs.declared.program.Program.{Program}

-- the places of a process of the module with this number
abbrev pub places_of : ℕ → Name → Field → List Field → List Stmt → Places Place
places_of m name port vars body = record {
  name = (m, name.span);
  declared = (m, port.name.span) ∷ map (λ d. (m, d.name.span)) vars;
  statements = map (λ s. (m, s)) (body_spans body);
}

-- the places of the processes of modules, which are numbered from this one on
abbrev pub places_from : ℕ → List Module → List (Places Place)
places_from m [] = []
places_from m (Definitions name items ∷ modules) = places_from (suc m) modules
places_from m (Process name port vars body ∷ modules) = places_of m name port vars.items body.items ∷ places_from (suc m) modules

-- the place of a refusal of the program as a whole
abbrev pub nowhere : Place
nowhere = (0, record { start = 0; end = 0 })

-- These are the refusals of names and types of modules, at their places. Language reference, "Refusals".
abbrev pub AreRefusalsOf : NamedTable → List Module → List (Code × Place) → Type 0
AreRefusalsOf types modules refusals = AreRefusals types (map module_view modules) (places_from 0 modules) nowhere refusals

-- it holds of the refusals, where there are some and memory suffices
abbrev pub IfRefused : ResolveFault → (List (Code × Place) → Type 0) → Type 0
IfRefused (Refused faults) holds = holds (map name_fault_view faults.items)
IfRefused Memory holds = Unit {0}

-- they are the refusals of modules, and there is one
pub record HasRefusals (types : NamedTable) (modules : List Module) (refusals : List (Code × Place)) : Type 0 where
  pub all : AreRefusalsOf types modules refusals
  pub some : refusals ≡ [] → ⊥

-- It is the program that modules mean, with the names, the numbers and the places of the text, and the type of each path.
pub record IsProgramOf (types : NamedTable) (modules : List Module) (p : Program) : Type 0 where
  pub processes : map typed_process_view p.processes.items ≡ meaning types (map module_view modules)
  pub main : p.main ≡ main_number (map module_view modules)
  pub named : map names_of p.processes.items ≡ of_processes names_written modules
  pub numbered : map numbers_of p.processes.items ≡ of_processes numbers_written modules
  pub of : KnowTypes types.shapes p.processes.items
