use Rattle.std.proofs.Common.{◌∷◌, ap₂, ◌∙◌}
use Rattle.herm_facts.specs.FactNumbers.{number_of}
use Rattle.herm_facts.specs.Numbers.{number_by, numbers_at}
use Rattle.herm_facts.proofs.fact_numbers.FactNumbers.number_of.Goals as goal

pub returns : goal.returns
unfolding number_of
returns c =
    c.number_at-found.ensures
    ∙ (ap₂ (λ ts p. number_by (numbers_at ts (c.path_of_fact-path.result.now.var.0 ∷ p)) c.component_of_fact-component.result) c.as_slice.ensures.value c.as_slice-2.ensures.value
    ∙ ap₂ (λ m p. number_by (numbers_at c.args.self.now.trees.items p) m) c.component_of_fact-component.ensures c.path_of_fact-path.ensures)
