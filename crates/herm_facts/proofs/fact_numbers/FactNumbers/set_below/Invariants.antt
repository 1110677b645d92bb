use Rattle.std.proofs.Common.{map, take}
use Rattle.herm_types.specs.View.{path_view}
use Rattle.herm_facts.specs.FactNumbers.{number_of}
use Rattle.herm_facts.specs.NumberSets.{has_number}
use Rattle.herm_facts.proofs.FactsInSets.{HasBelow}
use Rattle.herm_facts.proofs.fact_numbers.FactNumbers.set_below.Given as goal

abbrev pub invariant-loop-path : goal.invariant-loop-path
invariant-loop-path l = HasBelow (number_of l.self) (map path_view (take l.path-index l.paths)) (has_number l.set)
