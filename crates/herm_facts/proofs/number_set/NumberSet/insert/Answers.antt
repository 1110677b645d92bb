use Rattle.std.proofs.Common.{◌||◌, ◌∙◌, nat_eq, refl, ap}
use Rattle.herm_facts.specs.NumberSets.{has_number}
use Rattle.herm_facts.proofs.NumberSets.{word-changed}
use Rattle.herm_facts.proofs.number_set.NumberSet.insert.Goals as goal

pub returns-clause-ok : goal.returns-clause-ok
unfolding has_number
returns-clause-ok c n =
    word-changed (λ a b. b || a) c.reach.new.self.words.items c.args.number c.index.result.now c.with.result (λ b. refl) c.in_ok-reach.ensures.reached c.index.ensures c.with.ensures n
    ∙ ap (λ b. nat_eq n c.args.number || b) (c.reach.ensures.kept n)
