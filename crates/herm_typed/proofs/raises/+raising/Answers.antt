use Rattle.std.proofs.Common.{map, ap₂, ◌∙◌}
use Rattle.herm_typed.specs.View.{typed_sum_op_view, typed_prod_op_view, typed_prod_view, typed_unary_view}
use Rattle.herm_typed.specs.RaisedByExpressions.{raised_each, raises_behind}
use Rattle.herm_typed.proofs.Chains.{product_raises, sum_raises}
use Rattle.herm_typed.proofs.raises.+raising.Goals as goal

pub product-returns : goal.product-returns
product-returns t c =
    c.product_operands.ensures
    ∙ (ap₂ (λ r items. raised_each r (map (λ o. raises_behind (typed_prod_op_view o.0) (typed_unary_view o.1)) items)) c.unary.ensures c.as_slice.ensures.value
    ∙ product_raises c.args.e.now)

pub sum-returns : goal.sum-returns
sum-returns t c =
    c.sum_operands.ensures
    ∙ (ap₂ (λ r items. raised_each r (map (λ o. raises_behind (typed_sum_op_view o.0) (typed_prod_view o.1)) items)) c.product.ensures c.as_slice.ensures.value
    ∙ sum_raises c.args.e.now)
