use Rattle.std.proofs.Common.{◌≡◌, ◌↔◌, map, Some, slice_get, sym, subst}
use Rattle.herm_types.specs.View.{fact_view}
use Rattle.herm_facts.specs.FactNumbers.{number_of}
use Rattle.herm_facts.specs.Numbers.{number_in}
use Rattle.herm_facts.proofs.fact_numbers.FactNumbers.facts.Goals as goal

pub returns : goal.returns
unfolding number_of
returns c f n =
    subst (λ fs. (slice_get (map fact_view fs) n ≡ Some f) ↔ (number_in c.args.self.now.trees.items f ≡ Some n)) (sym c.as_slice.ensures.value) (c.args.self.now.numbers.listed f n)
