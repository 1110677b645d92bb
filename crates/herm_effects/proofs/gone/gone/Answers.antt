use Rattle.std.proofs.Common.{◌≡◌, map, subst, IfOk}
use Rattle.herm_model.specs.FactsOfStatements.{kills}
use Rattle.herm_types.specs.View.{path_view}
use Rattle.herm_typed.specs.View.{outcome_view}
use Rattle.herm_judge.specs.View.{table_of, variables_of}
use Rattle.herm_effects.proofs.Arms.{of_select}
use Rattle.herm_effects.proofs.gone.gone.Goals as goal

pub returns-in-Select : goal.returns-in-Select
returns-in-Select c =
    subst (λ paths. IfOk c.target_at_arm.result (λ v. map path_view v.items ≡ paths))
    (of_select (λ f. kills (table_of c.args.frame.now) (variables_of c.args.frame.now) f (outcome_view c.args.outcome)) c.args.form.now c.in-Select.arms c.as_slice.result.now c.in-Select.is c.as_slice.ensures.value)
    c.target_at_arm.ensures
