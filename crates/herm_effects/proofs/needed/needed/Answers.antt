use Rattle.std.proofs.Common.{◌≡◌, map, subst, IfOk}
use Rattle.herm_model.specs.FactsOfStatements.{row}
use Rattle.herm_types.specs.View.{fact_view}
use Rattle.herm_judge.specs.View.{table_of, variables_of}
use Rattle.herm_effects.proofs.Arms.{of_select}
use Rattle.herm_effects.proofs.needed.needed.Goals as goal

pub returns-in-Select : goal.returns-in-Select
returns-in-Select c =
    subst (λ facts. IfOk c.select_needs.result (λ v. map fact_view v.items ≡ facts))
    (of_select (λ f. (row (table_of c.args.frame.now) (variables_of c.args.frame.now) f).needed) c.args.form.now c.in-Select.arms c.as_slice-in-Select.result.now c.in-Select.is c.as_slice-in-Select.ensures.value)
    c.select_needs.ensures
