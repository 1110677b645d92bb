use Rattle.std.proofs.Common.{◌/◌, ◌%◌, ◌||◌, ◌∙◌, ap}
use Rattle.herm_facts.specs.FactSets.{has}
use Rattle.herm_facts.specs.NumberSets.{has_number}
use Rattle.herm_facts.specs.SparseSets.{word_has}
use Rattle.herm_facts.proofs.NumberSets.{place-changed}
use Rattle.herm_facts.proofs.SparseSets.{or_false}
use Rattle.herm_facts.proofs.number_set.NumberSet.union_word.Goals as goal

pub returns-clause-ok : goal.returns-clause-ok
unfolding has_number
returns-clause-ok c n =
    place-changed (λ a b. a || b) c.reach.new.self.words.items c.args.word.now.at c.index.result.now c.either.result (has c.args.word.now.set) or_false c.in_ok-reach.ensures.reached c.index.ensures c.either.ensures (n / 64) (n % 64)
    ∙ ap (λ b. b || word_has n c.args.word.now) (c.reach.ensures.kept n)
