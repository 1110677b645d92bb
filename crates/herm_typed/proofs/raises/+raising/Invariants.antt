use Rattle.std.proofs.Common.{◌≡◌, map, drop}
use Rattle.herm_model.specs.Expressions.{logical_or, logical_and}
use Rattle.herm_typed.specs.View.{typed_sum_op_view, typed_prod_op_view, typed_prod_view, typed_conj_view, typed_comp_view, typed_unary_view}
use Rattle.herm_typed.specs.RaisedByExpressions.{raised_each, raises_behind}
use Rattle.herm_typed.proofs.raises.+raising.Given as goal

-- Each invariant: what was found so far, together with what is left, is the whole.
abbrev pub invariant-product_operands-products : goal.invariant-product_operands-products
invariant-product_operands-products l = raised_each l.found (map (λ o. raises_behind (typed_prod_op_view o.0) (typed_unary_view o.1)) (drop l.op-index l.operands)) ≡ raised_each l.initial.found (map (λ o. raises_behind (typed_prod_op_view o.0) (typed_unary_view o.1)) l.operands)

abbrev pub invariant-sum_operands-sums : goal.invariant-sum_operands-sums
invariant-sum_operands-sums l = raised_each l.found (map (λ o. raises_behind (typed_sum_op_view o.0) (typed_prod_view o.1)) (drop l.op-index l.operands)) ≡ raised_each l.initial.found (map (λ o. raises_behind (typed_sum_op_view o.0) (typed_prod_view o.1)) l.operands)

abbrev pub invariant-and_operands-ands : goal.invariant-and_operands-ands
invariant-and_operands-ands l = raised_each l.found (map (λ o. raises_behind logical_and (typed_comp_view o)) (drop l.e-index l.operands)) ≡ raised_each l.initial.found (map (λ o. raises_behind logical_and (typed_comp_view o)) l.operands)

abbrev pub invariant-or_operands-ors : goal.invariant-or_operands-ors
invariant-or_operands-ors l = raised_each l.found (map (λ o. raises_behind logical_or (typed_conj_view o)) (drop l.e-index l.operands)) ≡ raised_each l.initial.found (map (λ o. raises_behind logical_or (typed_conj_view o)) l.operands)
