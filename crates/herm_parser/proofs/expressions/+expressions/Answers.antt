use Rattle.std.proofs.Common.{rules, ◌∙◌}
use Rattle.herm_readers.specs.Combinators.{many, one, sequence}
use Rattle.herm_syntax.specs.declared.expressions.Prod.{Prod}
use Rattle.herm_syntax.specs.declared.expressions.ProdOp.{ProdOp}
use Rattle.herm_syntax.specs.declared.expressions.SumOp.{SumOp}
use Rattle.herm_syntax.specs.declared.expressions.Unary.{Unary}
use Rattle.herm_syntax.specs.Symbols.{is_operator}
use Rattle.herm_syntax.specs.KeywordSymbols.{kw_and, kw_or}
use Rattle.herm_syntax.specs.ReadExpressions.{pick_by}
use Rattle.herm_syntax.specs.View.{sum_op_view, prod_op_view, conj_view, comp_view, prod_view, unary_view}
use Rattle.herm_parser.specs.Along.{past_behind, past_unary, past_product, past_comparison, past_conjunction}
use Rattle.herm_parser.specs.Levels.{unary_at, product_at, comparison_at, conjunction_at}
use Rattle.herm_parser.specs.Gives.{kinds}
use Rattle.herm_parser.proofs.Loops.{loop_next, loop_start, loop_smaller, past_next, past_start}
use Rattle.herm_parser.proofs.Going.{unary_goes, product_goes, comparison_goes, conjunction_goes}
use Rattle.herm_parser.proofs.expressions.+expressions.Goals as goal

pub product_operands-list-init : goal.product_operands-list-init
product_operands-list-init t c =
    (loop_start (λ (o : ProdOp × Unary). (prod_op_view o.0, unary_view o.1)) c.new-found.result.items (many (is_operator 1) (sequence (one (pick_by (is_operator 1))) (unary_at c.args.depth)) (kinds c.args.tokens.now)) (search rules), past_start (λ (o : ProdOp × Unary). past_behind past_unary o.1) c.new-found.result.items c.args.tokens.now (search rules))

pub product_operands-list-smaller : goal.product_operands-list-smaller
product_operands-list-smaller t c =
    loop_smaller (λ (o : ProdOp × Unary). (prod_op_view o.0, unary_view o.1)) (is_operator 1) (sequence (one (pick_by (is_operator 1))) (unary_at c.args.depth)) (unary_goes c.args.depth) (c.in_ok-operator.operator, c.in_ok-item.item) c.list.rest.now c.in_ok-item.behind.now (search rules)

pub product_operands-list-preserved : goal.product_operands-list-preserved
product_operands-list-preserved t c = (
  loop_next (λ (o : ProdOp × Unary). (prod_op_view o.0, unary_view o.1)) (is_operator 1) (sequence (one (pick_by (is_operator 1))) (unary_at c.args.depth)) (unary_goes c.args.depth)
      c.list.found.items c.push.new.self.items (c.in_ok-operator.operator, c.in_ok-item.item) (kinds c.list.rest.now) (kinds c.in_ok-item.behind.now)
      c.in_ok-push.ensures.items (search rules) (search rules) ∙ c.list.invariant.0,
  past_next (λ (o : ProdOp × Unary). past_behind past_unary o.1) c.list.found.items c.push.new.self.items (c.in_ok-operator.operator, c.in_ok-item.item) c.args.tokens.now c.list.rest.now c.in_ok-item.behind.now
      c.in_ok-push.ensures.items c.list.invariant.1 (search rules),
)

pub sum_operands-list-init : goal.sum_operands-list-init
sum_operands-list-init t c =
    (loop_start (λ (o : SumOp × Prod). (sum_op_view o.0, prod_view o.1)) c.new-found.result.items (many (is_operator 2) (sequence (one (pick_by (is_operator 2))) (product_at c.args.depth)) (kinds c.args.tokens.now)) (search rules), past_start (λ (o : SumOp × Prod). past_behind past_product o.1) c.new-found.result.items c.args.tokens.now (search rules))

pub sum_operands-list-smaller : goal.sum_operands-list-smaller
sum_operands-list-smaller t c =
    loop_smaller (λ (o : SumOp × Prod). (sum_op_view o.0, prod_view o.1)) (is_operator 2) (sequence (one (pick_by (is_operator 2))) (product_at c.args.depth)) (product_goes c.args.depth) (c.in_ok-operator.operator, c.in_ok-item.item) c.list.rest.now c.in_ok-item.behind.now (search rules)

pub sum_operands-list-preserved : goal.sum_operands-list-preserved
sum_operands-list-preserved t c = (
  loop_next (λ (o : SumOp × Prod). (sum_op_view o.0, prod_view o.1)) (is_operator 2) (sequence (one (pick_by (is_operator 2))) (product_at c.args.depth)) (product_goes c.args.depth)
      c.list.found.items c.push.new.self.items (c.in_ok-operator.operator, c.in_ok-item.item) (kinds c.list.rest.now) (kinds c.in_ok-item.behind.now)
      c.in_ok-push.ensures.items (search rules) (search rules) ∙ c.list.invariant.0,
  past_next (λ (o : SumOp × Prod). past_behind past_product o.1) c.list.found.items c.push.new.self.items (c.in_ok-operator.operator, c.in_ok-item.item) c.args.tokens.now c.list.rest.now c.in_ok-item.behind.now
      c.in_ok-push.ensures.items c.list.invariant.1 (search rules),
)

pub and_operands-list-init : goal.and_operands-list-init
and_operands-list-init t c =
    (loop_start (λ o. (kw_and, comp_view o)) c.new-found.result.items (many (is_operator 4) (sequence (one (pick_by (is_operator 4))) (comparison_at c.args.depth)) (kinds c.args.tokens.now)) (search rules), past_start (past_behind past_comparison) c.new-found.result.items c.args.tokens.now (search rules))

pub and_operands-list-smaller : goal.and_operands-list-smaller
and_operands-list-smaller t c =
    loop_smaller (λ o. (kw_and, comp_view o)) (is_operator 4) (sequence (one (pick_by (is_operator 4))) (comparison_at c.args.depth)) (comparison_goes c.args.depth) c.in_ok-item.item c.list.rest.now c.in_ok-item.behind.now (search rules)

pub and_operands-list-preserved : goal.and_operands-list-preserved
and_operands-list-preserved t c = (
  loop_next (λ o. (kw_and, comp_view o)) (is_operator 4) (sequence (one (pick_by (is_operator 4))) (comparison_at c.args.depth)) (comparison_goes c.args.depth)
      c.list.found.items c.push.new.self.items c.in_ok-item.item (kinds c.list.rest.now) (kinds c.in_ok-item.behind.now)
      c.in_ok-push.ensures.items (search rules) (search rules) ∙ c.list.invariant.0,
  past_next (past_behind past_comparison) c.list.found.items c.push.new.self.items c.in_ok-item.item c.args.tokens.now c.list.rest.now c.in_ok-item.behind.now
      c.in_ok-push.ensures.items c.list.invariant.1 (search rules),
)

pub or_operands-list-init : goal.or_operands-list-init
or_operands-list-init t c =
    (loop_start (λ o. (kw_or, conj_view o)) c.new-found.result.items (many (is_operator 5) (sequence (one (pick_by (is_operator 5))) (conjunction_at c.args.depth)) (kinds c.args.tokens.now)) (search rules), past_start (past_behind past_conjunction) c.new-found.result.items c.args.tokens.now (search rules))

pub or_operands-list-smaller : goal.or_operands-list-smaller
or_operands-list-smaller t c =
    loop_smaller (λ o. (kw_or, conj_view o)) (is_operator 5) (sequence (one (pick_by (is_operator 5))) (conjunction_at c.args.depth)) (conjunction_goes c.args.depth) c.in_ok-item.item c.list.rest.now c.in_ok-item.behind.now (search rules)

pub or_operands-list-preserved : goal.or_operands-list-preserved
or_operands-list-preserved t c = (
  loop_next (λ o. (kw_or, conj_view o)) (is_operator 5) (sequence (one (pick_by (is_operator 5))) (conjunction_at c.args.depth)) (conjunction_goes c.args.depth)
      c.list.found.items c.push.new.self.items c.in_ok-item.item (kinds c.list.rest.now) (kinds c.in_ok-item.behind.now)
      c.in_ok-push.ensures.items (search rules) (search rules) ∙ c.list.invariant.0,
  past_next (past_behind past_conjunction) c.list.found.items c.push.new.self.items c.in_ok-item.item c.args.tokens.now c.list.rest.now c.in_ok-item.behind.now
      c.in_ok-push.ensures.items c.list.invariant.1 (search rules),
)
