use Rattle.std.proofs.Common.{◌≡◌, ◌++◌, ◌+◌, map, drop, take}
use Rattle.herm_syntax.specs.View.{field_view}
use Rattle.herm_naming.specs.StatementFaults.{variable_codes}
use Rattle.herm_naming.specs.RefusalsOfNames.{at_places}
use Rattle.herm_numbers.specs.Faults.{name_fault_view}
use Rattle.herm_numbers.proofs.declarations.add_variables.Given as goal

-- The faults so far, with those that are left, are all.
abbrev pub invariant-vars : goal.invariant-vars
invariant-vars l = map name_fault_view l.faults.items ++ at_places (map (λ d. (l.module_number, d.name.span)) (drop l.place l.vars)) (variable_codes l.types (take (l.place + 1) l.names) (map field_view (drop l.place l.vars))) ≡ map name_fault_view l.fn.faults.items ++ at_places (map (λ d. (l.module_number, d.name.span)) l.vars) (variable_codes l.types (take 1 l.names) (map field_view l.vars))
