use Rattle.std.proofs.Common.{◌≡◌, ◌&&◌, false, nat_lt}
use Rattle.herm_model.specs.Lists.{map_or}
use Rattle.herm_model.specs.Paths.{Fact}
use Rattle.herm_typestate.specs.Facts.{has_fact}
use Rattle.herm_facts.specs.FactNumbers.{number_of}
use Rattle.herm_facts.specs.NumberSets.{has_number}
use Rattle.herm_check.proofs.label_states.state_of.Given as goal

abbrev pub invariant-loop-number : goal.invariant-loop-number
invariant-loop-number l = (f : Fact) → has_fact l.state f ≡ map_or false (λ k. nat_lt k l.number && has_number l.held k) (number_of l.numbers f)
