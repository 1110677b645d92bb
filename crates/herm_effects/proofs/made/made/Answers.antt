use Rattle.std.proofs.Common.{◌≡◌, map, subst, IfOk}
use Rattle.herm_model.specs.FactsOfStatements.{row}
use Rattle.herm_types.specs.View.{fact_view}
use Rattle.herm_typed.specs.View.{outcome_view}
use Rattle.herm_judge.specs.View.{table_of, variables_of}
use Rattle.herm_effects.proofs.Arms.{of_select}
use Rattle.herm_effects.proofs.made.made.Goals as goal

pub returns-in-Select : goal.returns-in-Select
returns-in-Select c =
    subst (λ facts. IfOk c.select_makes.result (λ v. map fact_view v.items ≡ facts))
    (of_select (λ f. (row (table_of c.args.frame.now) (variables_of c.args.frame.now) f).made (outcome_view c.args.outcome)) c.args.form.now c.in-Select.arms c.as_slice.result.now c.in-Select.is c.as_slice.ensures.value)
    c.select_makes.ensures
