use Rattle.std.proofs.Common.{ℕ, sym, ◌∙◌, arith}
use Rattle.herm_facts.specs.NumberSets.{has_at}
use Rattle.herm_check.proofs.ListedFacts.{any-none}
use Rattle.herm_check.proofs.effects.effects_none.Goals as goal

pub returns-clause-each : goal.returns-clause-each
returns-clause-each c n e effect at there j =
    let none = c.in_ok-effects.ensures.none n effect j there in (
      none.0 ∙ sym (any-none (λ (m : ℕ). has_at c.args._made.now m j) e.makes.items (λ m. c.requires.made m j)),
      none.1 ∙ sym (c.requires.gone e.kills j),
    )
