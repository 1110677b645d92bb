use Rattle.std.proofs.Common.{◌++◌, flat_map, ap, ◌∙◌}
use Rattle.herm_model.specs.Expressions.{logical_or, logical_and}
use Rattle.herm_typed.specs.declared.expressions.TypedProd.{out-TypedProd}
use Rattle.herm_typed.specs.declared.expressions.TypedSum.{out-TypedSum}
use Rattle.herm_typed.specs.declared.expressions.TypedConj.{out-TypedConj}
use Rattle.herm_typed.specs.declared.expressions.TypedExpr.{out-TypedExpr}
use Rattle.herm_typed.specs.View.{typed_sum_op_view, typed_prod_op_view, typed_prod_view, typed_conj_view, typed_comp_view, typed_unary_view}
use Rattle.herm_fronts.specs.Operands.{operands_of, operands_behind}
use Rattle.herm_fronts.proofs.Chains.{pushed_twice, product_done, sum_done, conjunction_done, expression_done}
use Rattle.herm_fronts.proofs.expressions.+operands.Goals as goal

pub product-returns : goal.product-returns
product-returns t c =
    pushed_twice _ _ _ _ _ _ c.in_ok-unary.ensures c.in_ok-product_operands.ensures
    (ap (λ items. operands_of (typed_unary_view (out-TypedProd c.args.e.now).first) ++ flat_map (λ o. operands_behind (typed_prod_op_view o.0) (typed_unary_view o.1)) items) c.as_slice.ensures.value ∙ product_done c.args.e.now)

pub sum-returns : goal.sum-returns
sum-returns t c =
    pushed_twice _ _ _ _ _ _ c.in_ok-product.ensures c.in_ok-sum_operands.ensures
    (ap (λ items. operands_of (typed_prod_view (out-TypedSum c.args.e.now).first) ++ flat_map (λ o. operands_behind (typed_sum_op_view o.0) (typed_prod_view o.1)) items) c.as_slice.ensures.value ∙ sum_done c.args.e.now)

pub conjunction-returns : goal.conjunction-returns
conjunction-returns t c =
    pushed_twice _ _ _ _ _ _ c.in_ok-comparison.ensures c.in_ok-and_operands.ensures
    (ap (λ items. operands_of (typed_comp_view (out-TypedConj c.args.e.now).first) ++ flat_map (λ o. operands_behind logical_and (typed_comp_view o)) items) c.as_slice.ensures.value ∙ conjunction_done c.args.e.now)

pub expression-returns : goal.expression-returns
expression-returns t c =
    pushed_twice _ _ _ _ _ _ c.in_ok-conjunction.ensures c.in_ok-or_operands.ensures
    (ap (λ items. operands_of (typed_conj_view (out-TypedExpr c.args.e.now).first) ++ flat_map (λ o. operands_behind logical_or (typed_conj_view o)) items) c.as_slice.ensures.value ∙ expression_done c.args.e.now)
