use Rattle.std.proofs.Common.{◌≡◌, ◌++◌, map, drop}
use Rattle.herm_naming.specs.RefusalsOfNames.{at_places}
use Rattle.herm_numbers.specs.Faults.{name_fault_view, codes_found, spans_found}
use Rattle.herm_numbers.proofs.declarations.add_found.Given as goal

-- The faults so far, with those that are left, are all.
abbrev pub invariant-found : goal.invariant-found
invariant-found l = map name_fault_view l.faults.items ++ at_places (map (λ s. (l.module_number, s)) (spans_found (drop l.j-index l.found))) (codes_found (drop l.j-index l.found)) ≡ map name_fault_view l.fn.faults.items ++ at_places (map (λ s. (l.module_number, s)) (spans_found l.found)) (codes_found l.found)
