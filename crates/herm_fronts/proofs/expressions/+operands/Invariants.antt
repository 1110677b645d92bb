use Rattle.std.proofs.Common.{◌≡◌, ◌++◌, map, flat_map, drop}
use Rattle.herm_model.specs.Expressions.{logical_or, logical_and}
use Rattle.herm_typed.specs.View.{typed_sum_op_view, typed_prod_op_view, typed_prod_view, typed_conj_view, typed_comp_view, typed_unary_view}
use Rattle.herm_fronts.specs.Operands.{operands_behind}
use Rattle.herm_fronts.specs.View.{item_view}
use Rattle.herm_fronts.proofs.expressions.+operands.Given as goal

-- Each invariant: what was pushed so far, joined with what is left, is the whole.
abbrev pub invariant-product_operands-products : goal.invariant-product_operands-products
invariant-product_operands-products l = map item_view l.out.items ++ flat_map (λ o. operands_behind (typed_prod_op_view o.0) (typed_unary_view o.1)) (drop l.op-index l.operands) ≡ map item_view l.fn.out.items ++ flat_map (λ o. operands_behind (typed_prod_op_view o.0) (typed_unary_view o.1)) l.operands

abbrev pub invariant-sum_operands-sums : goal.invariant-sum_operands-sums
invariant-sum_operands-sums l = map item_view l.out.items ++ flat_map (λ o. operands_behind (typed_sum_op_view o.0) (typed_prod_view o.1)) (drop l.op-index l.operands) ≡ map item_view l.fn.out.items ++ flat_map (λ o. operands_behind (typed_sum_op_view o.0) (typed_prod_view o.1)) l.operands

abbrev pub invariant-and_operands-ands : goal.invariant-and_operands-ands
invariant-and_operands-ands l = map item_view l.out.items ++ flat_map (λ o. operands_behind logical_and (typed_comp_view o)) (drop l.e-index l.operands) ≡ map item_view l.fn.out.items ++ flat_map (λ o. operands_behind logical_and (typed_comp_view o)) l.operands

abbrev pub invariant-or_operands-ors : goal.invariant-or_operands-ors
invariant-or_operands-ors l = map item_view l.out.items ++ flat_map (λ o. operands_behind logical_or (typed_conj_view o)) (drop l.e-index l.operands) ≡ map item_view l.fn.out.items ++ flat_map (λ o. operands_behind logical_or (typed_conj_view o)) l.operands
