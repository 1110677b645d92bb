-- A process by what is known of the program, its codes, and what is found at its places.
use Rattle.std.specs.Prelude.{ℕ, ◌<◌, ◌^◌, List, [], ◌∷◌, ◌++◌, map, take, length, Option, Some, None, Bool, true, false, cond, ◌||◌, ◌&&◌, nat_lt, nat_eq, bytes_eq, ◌≡◌}
use Rattle.herm_base.specs.declared.word.Name.{Name}
use Rattle.herm_model.specs.Types.{TypeTable, all_parts, variable_paths}
use Rattle.herm_model.specs.Statements.{Process}
use Rattle.herm_model.specs.TypedPrograms.{main_start}
use Rattle.herm_syntax.specs.Trees.{Letters}
use Rattle.herm_syntax.specs.View.{name_view, field_view, stmts_view, module_view}
use Rattle.herm_syntax.specs.declared.definitions.Field.{Field}
use Rattle.herm_syntax.specs.declared.modules.Module.{Module}
use Rattle.herm_syntax.specs.declared.statements.Stmt.{Stmt}
use Rattle.herm_meaning.specs.Names.{NamedTable, IsWellNamed}
use Rattle.herm_naming.specs.Numbers.{Scope, type_number}
use Rattle.herm_naming.specs.Meaning.{block_number, processes_in, process_meaning, main_name}
use Rattle.herm_naming.specs.StatementFaults.{Code, twice, too_many, is_among, name_code, declaration_code, variable_codes, statement_codes}
use Rattle.herm_naming.specs.RefusalsOfNames.{Places, are_none, RefusesBy, RefusesProcesses, ArePlaced}
use Rattle.herm_typed.specs.View.{typed_process_view}
use Rattle.herm_typed.specs.declared.statements.TypedProcess.{TypedProcess}
use Rattle.herm_numbers.specs.Counts.{IsCounted}
use Rattle.herm_numbers.specs.View.{IsSized}
use Rattle.herm_numbers.specs.Faults.{Place, name_fault_view, codes_found, spans_found}
use Rattle.herm_numbers.specs.declared.fault.Judged.{Judged}
use Rattle.herm_numbers.specs.declared.fault.NameFault.{NameFault}
use Rattle.herm_numbers.specs.declared.known.Known.{Known}
use Rattle.herm_typed.specs.Beside.{KnowTypes}
use Rattle.herm_resolve.specs.Kept.{of_processes, names_of, names_written, numbers_of, numbers_written}
use Rattle.herm_resolve.specs.Refused.{places_from}

-- what is known of a program, over a table that keeps the rules of definitions
pub record IsReady (k : Known) : Type 0 where
  pub sized : IsSized k.types.now
  pub well : IsWellNamed k.types.now
  pub exceptions : k.exceptions ≡ k.types.now.exceptions
  pub processes : length k.processes < 2 ^ 32
  pub alike : length k.processes ≡ length k.ports.items
  pub counted : IsCounted k.types.now.shapes k.counts.items

-- what is known within a process with these declarations
abbrev pub scope_within : Known → Field → List Field → Scope
scope_within k port vars = record {
  known = k.types.now;
  variables = name_view port.name ∷ map (λ d. name_view d.name) vars;
  types = type_number k.types.now (name_view port.of) ∷ map (λ d. type_number k.types.now (name_view d.of)) vars;
  processes = k.processes;
  ports = map (λ t. t.0) k.ports.items;
}

-- the process that is meant, and the codes at its places behind so many processes
abbrev pub process_within : Known → Field → List Field → List Stmt → Process
process_within k port vars body = record { variables = (scope_within k port vars).types; body = block_number (scope_within k port vars) (stmts_view body) }

abbrev pub codes_within : Known → ℕ → Name → Field → List Field → List Stmt → List (Option Code)
codes_within k number name port vars body =
    name_code k.types.now (take number k.processes) (name_view name) (process_within k port vars body)
    ∷ declaration_code k.types.now true [] (field_view port)
    ∷ (variable_codes k.types.now (name_view port.name ∷ []) (map field_view vars) ++ statement_codes (scope_within k port vars) (stmts_view body))

-- the codes at the places of a process, by what is found at its statements
abbrev pub found_codes : Known → (of : List ℕ) → ℕ → Name → Field → List Field → List Judged → List (Option Code)
found_codes k of number name port vars found =
    cond (is_among (name_view name) (take number k.processes)) (Some twice) (cond (nat_lt 1024 (length found) || nat_lt 4096 (length (variable_paths all_parts k.types.now.shapes of))) (Some too_many) None)
    ∷ declaration_code k.types.now true [] (field_view port)
    ∷ (variable_codes k.types.now (name_view port.name ∷ []) (map field_view vars) ++ codes_found found)

abbrev pub found_places : ℕ → Name → Field → List Field → List Judged → Places Place
found_places m name port vars found = record {
  name = (m, name.span);
  declared = (m, port.name.span) ∷ map (λ d. (m, d.name.span)) vars;
  statements = map (λ s. (m, s)) (spans_found found);
}

-- behind the refusals before stand those of a process
pub record AddsRefusals (before after : List (Code × Place)) (table : TypeTable) (p : Process) (codes : List (Option Code)) (places : Places Place) : Type 0 where
  pub own : List (Code × Place)
  pub refused : RefusesBy (are_none codes) table p codes places own
  pub behind : after ≡ before ++ own

-- what is known is of these modules
pub record IsKnownOf (k : Known) (modules : List Module) : Type 0 where
  pub names : k.processes ≡ map (λ q. q.name) (processes_in (map module_view modules))
  pub ports : map (λ t. t.0) k.ports.items ≡ map (λ q. type_number k.types.now q.port.1) (processes_in (map module_view modules))

-- So many first modules are judged: their processes by number with what they keep of the text, and the refusals of these. Where there is
-- none, each path has its type.
pub record AreJudged (k : Known) (modules : List Module) (count : ℕ) (found : List TypedProcess) (faults : List NameFault) : Type 0 where
  pub named : map names_of found ≡ of_processes names_written (take count modules)
  pub numbered : map numbers_of found ≡ of_processes numbers_written (take count modules)
  pub of : faults ≡ [] → KnowTypes k.types.now.shapes found
  pub processes : map typed_process_view found ≡ map (process_meaning k.types.now (processes_in (map module_view modules))) (processes_in (map module_view (take count modules)))
  pub placed : ArePlaced k.types.now (processes_in (map module_view modules)) (processes_in (map module_view (take count modules))) (places_from 0 (take count modules))
  pub refusals : RefusesProcesses k.types.now (processes_in (map module_view modules)) [] (processes_in (map module_view (take count modules))) (places_from 0 (take count modules)) (map name_fault_view faults)

-- some process `main` has a port of the type main_start
abbrev pub is_main_among : List Letters → List ℕ → Bool
is_main_among [] ts = false
is_main_among (n ∷ ns) [] = false
is_main_among (n ∷ ns) (t ∷ ts) = (bytes_eq n main_name && nat_eq t main_start) || is_main_among ns ts
