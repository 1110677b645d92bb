use Rattle.std.proofs.Common.{◌≡◌, ◌++◌, map, drop, cond, Some, None}
use Rattle.herm_naming.specs.StatementFaults.{unreachable}
use Rattle.herm_naming.specs.RefusalsOfNames.{at_places}
use Rattle.herm_numbers.specs.Faults.{name_fault_view, spans_found}
use Rattle.herm_resolve.proofs.process.add_unreached.Given as goal

-- The faults so far, with those that are left, are all.
abbrev pub invariant-found : goal.invariant-found
invariant-found l = map name_fault_view l.faults.items ++ at_places (map (λ s. (l.module_number, s)) (spans_found (drop l.place l.found))) (map (λ m. cond m (Some unreachable) None) (drop l.place l.marks)) ≡ map name_fault_view l.fn.faults.items ++ at_places (map (λ s. (l.module_number, s)) (spans_found l.found)) (map (λ m. cond m (Some unreachable) None) l.marks)
