use Rattle.std.proofs.Common.{◌≡◌, ◌∙◌, ◌∷◌, [], Some, None, sym, subst}
use Rattle.herm_types.specs.View.{fact_view}
use Rattle.herm_check.specs.Numberings.{HaveNumbers}
use Rattle.herm_check.proofs.FactsNumbered.{one-added}
use Rattle.herm_check.proofs.numbering.first_number.Goals as goal

pub returns : goal.returns
returns c =
    subst (λ g. HaveNumbers (g ∷ []) c.add.new.self) c.start_fact-start.ensures
    (one-added [] c.none-numbers.result c.add.new.self (fact_view c.start_fact-start.result) _ c.in_ok-add.ensures.number c.in_ok-add.ensures.others c.in_ok-add.ensures.kept
    (record { all = λ f m. absurd m; only = λ f n at. absurd (let k : None ≡ Some n = sym (c.none-numbers.ensures f) ∙ at in let z : ⊥ = cc in z) }))
