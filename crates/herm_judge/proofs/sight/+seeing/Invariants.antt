use Rattle.std.proofs.Common.{◌≡◌, map, drop}
use Rattle.herm_model.specs.Expressions.{logical_or, logical_and}
use Rattle.herm_typed.specs.View.{typed_sum_op_view, typed_prod_op_view, typed_prod_view, typed_conj_view, typed_comp_view, typed_unary_view}
use Rattle.herm_judge.specs.View.{table_of, variables_of}
use Rattle.herm_judge.specs.Sight.{seen_view, sight, operated_each}
use Rattle.herm_judge.proofs.sight.+seeing.Given as goal

-- Each invariant: what was found so far, together with what is left, is the whole.
abbrev pub invariant-product_operands-products : goal.invariant-product_operands-products
invariant-product_operands-products l = operated_each (table_of l.frame) (seen_view l.found) (map (λ o. (typed_prod_op_view o.0, sight (table_of l.frame) (variables_of l.frame) (typed_unary_view o.1))) (drop l.op-index l.operands)) ≡ operated_each (table_of l.frame) (seen_view l.initial.found) (map (λ o. (typed_prod_op_view o.0, sight (table_of l.frame) (variables_of l.frame) (typed_unary_view o.1))) l.operands)

abbrev pub invariant-sum_operands-sums : goal.invariant-sum_operands-sums
invariant-sum_operands-sums l = operated_each (table_of l.frame) (seen_view l.found) (map (λ o. (typed_sum_op_view o.0, sight (table_of l.frame) (variables_of l.frame) (typed_prod_view o.1))) (drop l.op-index l.operands)) ≡ operated_each (table_of l.frame) (seen_view l.initial.found) (map (λ o. (typed_sum_op_view o.0, sight (table_of l.frame) (variables_of l.frame) (typed_prod_view o.1))) l.operands)

abbrev pub invariant-and_operands-ands : goal.invariant-and_operands-ands
invariant-and_operands-ands l = operated_each (table_of l.frame) (seen_view l.found) (map (λ o. (logical_and, sight (table_of l.frame) (variables_of l.frame) (typed_comp_view o))) (drop l.e-index l.operands)) ≡ operated_each (table_of l.frame) (seen_view l.initial.found) (map (λ o. (logical_and, sight (table_of l.frame) (variables_of l.frame) (typed_comp_view o))) l.operands)

abbrev pub invariant-or_operands-ors : goal.invariant-or_operands-ors
invariant-or_operands-ors l = operated_each (table_of l.frame) (seen_view l.found) (map (λ o. (logical_or, sight (table_of l.frame) (variables_of l.frame) (typed_conj_view o))) (drop l.e-index l.operands)) ≡ operated_each (table_of l.frame) (seen_view l.initial.found) (map (λ o. (logical_or, sight (table_of l.frame) (variables_of l.frame) (typed_conj_view o))) l.operands)
