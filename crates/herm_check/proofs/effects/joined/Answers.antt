use Rattle.std.proofs.Common.{◌||◌, ℕ, get_or, sym, ◌∙◌, ap, ap₂}
use Rattle.herm_facts.specs.FactSets.{has}
use Rattle.herm_facts.specs.NumberSets.{has_at}
use Rattle.herm_check.proofs.ListedFacts.{any-next}
use Rattle.herm_check.proofs.effects.joined.Goals as goal

pub loop-at-preserved : goal.loop-at-preserved
loop-at-preserved c j =
    let places = c.args.places.now in
    let i = c.loop-at.at-index in
    let test = λ (m : ℕ). has_at c.args.words.now m j in
    c.either-all.ensures j ∙ (ap₂ ◌||◌ (c.loop-at.invariant j) (c.word_at.ensures j) ∙ sym (any-next test places i 0 c.loop-at-test.true))
