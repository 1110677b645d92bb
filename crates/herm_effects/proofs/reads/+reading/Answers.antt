use Rattle.herm_model.specs.Expressions.{paths_read}
use Rattle.herm_typed.specs.View.{typed_conj_view, typed_comp_view, typed_prod_view, typed_unary_view}
use Rattle.herm_effects.proofs.Reading.{product_reads, sum_reads, conjunction_reads, expression_reads, pushed_both}
use Rattle.herm_effects.proofs.reads.+reading.Goals as goal

pub product-returns : goal.product-returns
product-returns t c = pushed_both (λ o. paths_read (typed_unary_view o.1)) _ _ _ _ _ _ _ c.as_slice.ensures.value c.in_ok-unary.ensures c.in_ok-product_operands.ensures (product_reads c.args.e.now)

pub sum-returns : goal.sum-returns
sum-returns t c = pushed_both (λ o. paths_read (typed_prod_view o.1)) _ _ _ _ _ _ _ c.as_slice.ensures.value c.in_ok-product.ensures c.in_ok-sum_operands.ensures (sum_reads c.args.e.now)

pub conjunction-returns : goal.conjunction-returns
conjunction-returns t c = pushed_both (λ o. paths_read (typed_comp_view o)) _ _ _ _ _ _ _ c.as_slice.ensures.value c.in_ok-comparison.ensures c.in_ok-and_operands.ensures (conjunction_reads c.args.e.now)

pub push_read-returns : goal.push_read-returns
push_read-returns t c = pushed_both (λ o. paths_read (typed_conj_view o)) _ _ _ _ _ _ _ c.as_slice.ensures.value c.in_ok-conjunction.ensures c.in_ok-or_operands.ensures (expression_reads c.args.e.now)
