use Rattle.std.proofs.Common.{map, ap₂, ◌∙◌}
use Rattle.herm_model.specs.Expressions.{logical_or, logical_and}
use Rattle.herm_typed.specs.View.{typed_sum_op_view, typed_prod_op_view, typed_prod_view, typed_conj_view, typed_comp_view, typed_unary_view}
use Rattle.herm_judge.specs.View.{table_of, variables_of}
use Rattle.herm_judge.specs.Sight.{sight, operated_each}
use Rattle.herm_judge.proofs.Sights.{product_sight, sum_sight, conjunction_sight, expression_sight}
use Rattle.herm_judge.proofs.sight.+seeing.Goals as goal

pub conjunction-returns : goal.conjunction-returns
conjunction-returns t c = record {
  seen = c.and_operands.ensures.seen
      ∙ (ap₂ (λ s items. operated_each (table_of c.args.frame.now) s (map (λ o. (logical_and, sight (table_of c.args.frame.now) (variables_of c.args.frame.now) (typed_comp_view o))) items)) c.comparison.ensures.seen c.as_slice.ensures.value
      ∙ conjunction_sight (table_of c.args.frame.now) (variables_of c.args.frame.now) c.args.e.now);
}

pub expression_seen-returns : goal.expression_seen-returns
expression_seen-returns t c = record {
  seen = c.or_operands.ensures.seen
      ∙ (ap₂ (λ s items. operated_each (table_of c.args.frame.now) s (map (λ o. (logical_or, sight (table_of c.args.frame.now) (variables_of c.args.frame.now) (typed_conj_view o))) items)) c.conjunction.ensures.seen c.as_slice.ensures.value
      ∙ expression_sight (table_of c.args.frame.now) (variables_of c.args.frame.now) c.args.e.now);
}

pub product-returns : goal.product-returns
product-returns t c = record {
  seen = c.product_operands.ensures.seen
      ∙ (ap₂ (λ s items. operated_each (table_of c.args.frame.now) s (map (λ o. (typed_prod_op_view o.0, sight (table_of c.args.frame.now) (variables_of c.args.frame.now) (typed_unary_view o.1))) items)) c.unary.ensures.seen c.as_slice.ensures.value
      ∙ product_sight (table_of c.args.frame.now) (variables_of c.args.frame.now) c.args.e.now);
}

pub sum-returns : goal.sum-returns
sum-returns t c = record {
  seen = c.sum_operands.ensures.seen
      ∙ (ap₂ (λ s items. operated_each (table_of c.args.frame.now) s (map (λ o. (typed_sum_op_view o.0, sight (table_of c.args.frame.now) (variables_of c.args.frame.now) (typed_prod_view o.1))) items)) c.product.ensures.seen c.as_slice.ensures.value
      ∙ sum_sight (table_of c.args.frame.now) (variables_of c.args.frame.now) c.args.e.now);
}
