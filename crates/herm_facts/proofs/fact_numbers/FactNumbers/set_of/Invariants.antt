use Rattle.std.proofs.Common.{map, take}
use Rattle.herm_types.specs.View.{fact_view}
use Rattle.herm_facts.specs.FactNumbers.{number_of}
use Rattle.herm_facts.specs.NumberSets.{has_number}
use Rattle.herm_facts.proofs.FactsInSets.{HasListed}
use Rattle.herm_facts.proofs.fact_numbers.FactNumbers.set_of.Given as goal

abbrev pub invariant-loop-fact : goal.invariant-loop-fact
invariant-loop-fact l = HasListed (number_of l.self) (map fact_view (take l.fact-index l.facts)) (has_number l.set)
