use Rattle.std.proofs.Common.{◌∷◌, ap, ap₂, ◌∙◌}
use Rattle.herm_facts.specs.Numbers.{numbers_at, given}
use Rattle.herm_facts.proofs.numbering.give.Goals as goal

pub returns-clause-ok : goal.returns-clause-ok
returns-clause-ok c q =
    c.in_ok-give.ensures.ok q
    ∙ ap₂ (λ p m. given p m c.args.number q (numbers_at c.args.trees.now.items q))
    (ap (λ p. c.path_of_fact-path.result.now.var.0 ∷ p) c.as_slice.ensures.value ∙ c.path_of_fact-path.ensures) c.component_of_fact-component.ensures
