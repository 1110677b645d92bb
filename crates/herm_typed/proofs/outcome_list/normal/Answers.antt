use Rattle.std.proofs.Common.{◌≡◌, length, map, sym, ap, subst, ◌∙◌, IfOk}
use Rattle.herm_model.specs.Lists.{range}
use Rattle.herm_model.specs.Outcomes.{component, arm}
use Rattle.herm_typed.specs.View.{outcome_view}
use Rattle.herm_typed.specs.Outcomes.{normal_of}
use Rattle.herm_typed.proofs.SeenArms.{case_normal, select_normal}
use Rattle.herm_typed.proofs.outcome_list.normal.Goals as goal

pub returns-in-Case : goal.returns-in-Case
returns-in-Case c =
    subst (λ os. IfOk c.components.result (λ v. map outcome_view v.items ≡ os))
    (ap (map (λ a. component a.0)) c.as_slice.ensures.value ∙ (case_normal c.in-Case.field-0 c.in-Case.arms ∙ ap normal_of (sym c.in-Case.is))) c.components.ensures

pub returns-in-Select : goal.returns-in-Select
returns-in-Select c =
    subst (λ os. IfOk c.select_arms.result (λ v. map outcome_view v.items ≡ os))
    (ap (λ xs. map arm (range 0 (length xs))) c.as_slice-arms.ensures.value ∙ (select_normal c.in-Select.arms ∙ ap normal_of (sym c.in-Select.is))) c.select_arms.ensures
