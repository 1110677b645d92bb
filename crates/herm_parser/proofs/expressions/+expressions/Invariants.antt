use Rattle.std.proofs.Common.{◌≡◌, ◌+◌, ◌*◌, length, map, Some}
use Rattle.herm_readers.specs.Combinators.{many, one, sequence}
use Rattle.herm_syntax.specs.Symbols.{is_operator}
use Rattle.herm_syntax.specs.KeywordSymbols.{kw_and, kw_or}
use Rattle.herm_syntax.specs.ReadExpressions.{pick_by}
use Rattle.herm_syntax.specs.View.{sum_op_view, prod_op_view, conj_view, comp_view, prod_view, unary_view}
use Rattle.herm_parser.specs.Along.{past_each, past_behind, past_unary, past_product, past_comparison, past_conjunction}
use Rattle.herm_parser.specs.Levels.{unary_at, product_at, comparison_at, conjunction_at}
use Rattle.herm_parser.specs.Gives.{kinds, with_front}
use Rattle.herm_parser.proofs.expressions.+expressions.Given as goal

abbrev pub decreases-in_parens : goal.decreases-in_parens
decreases-in_parens l = 12 * l.depth + 0

abbrev pub decreases-primary : goal.decreases-primary
decreases-primary l = 12 * l.depth + 1

abbrev pub decreases-unary : goal.decreases-unary
decreases-unary l = 12 * l.depth + 2

abbrev pub decreases-product_operands : goal.decreases-product_operands
decreases-product_operands l = 12 * l.depth + 3

abbrev pub decreases-product : goal.decreases-product
decreases-product l = 12 * l.depth + 4

abbrev pub decreases-sum_operands : goal.decreases-sum_operands
decreases-sum_operands l = 12 * l.depth + 5

abbrev pub decreases-sum : goal.decreases-sum
decreases-sum l = 12 * l.depth + 6

abbrev pub decreases-comparison : goal.decreases-comparison
decreases-comparison l = 12 * l.depth + 7

abbrev pub decreases-and_operands : goal.decreases-and_operands
decreases-and_operands l = 12 * l.depth + 8

abbrev pub decreases-conjunction : goal.decreases-conjunction
decreases-conjunction l = 12 * l.depth + 9

abbrev pub decreases-or_operands : goal.decreases-or_operands
decreases-or_operands l = 12 * l.depth + 10

abbrev pub decreases-expression : goal.decreases-expression
decreases-expression l = 12 * l.depth + 11

abbrev pub invariant-product_operands-list : goal.invariant-product_operands-list
invariant-product_operands-list l =
    (with_front (map (λ o. (prod_op_view o.0, unary_view o.1)) l.found.items) (many (is_operator 1) (sequence (one (pick_by (is_operator 1))) (unary_at l.depth)) (kinds l.rest)) ≡ many (is_operator 1) (sequence (one (pick_by (is_operator 1))) (unary_at l.depth)) (kinds l.fn.tokens))
    × (past_each (λ o. past_behind past_unary o.1) l.found.items l.fn.tokens ≡ Some l.rest)

abbrev pub decreases-product_operands-list : goal.decreases-product_operands-list
decreases-product_operands-list l = length l.rest

abbrev pub invariant-sum_operands-list : goal.invariant-sum_operands-list
invariant-sum_operands-list l =
    (with_front (map (λ o. (sum_op_view o.0, prod_view o.1)) l.found.items) (many (is_operator 2) (sequence (one (pick_by (is_operator 2))) (product_at l.depth)) (kinds l.rest)) ≡ many (is_operator 2) (sequence (one (pick_by (is_operator 2))) (product_at l.depth)) (kinds l.fn.tokens))
    × (past_each (λ o. past_behind past_product o.1) l.found.items l.fn.tokens ≡ Some l.rest)

abbrev pub decreases-sum_operands-list : goal.decreases-sum_operands-list
decreases-sum_operands-list l = length l.rest

abbrev pub invariant-and_operands-list : goal.invariant-and_operands-list
invariant-and_operands-list l =
    (with_front (map (λ o. (kw_and, comp_view o)) l.found.items) (many (is_operator 4) (sequence (one (pick_by (is_operator 4))) (comparison_at l.depth)) (kinds l.rest)) ≡ many (is_operator 4) (sequence (one (pick_by (is_operator 4))) (comparison_at l.depth)) (kinds l.fn.tokens))
    × (past_each (past_behind past_comparison) l.found.items l.fn.tokens ≡ Some l.rest)

abbrev pub decreases-and_operands-list : goal.decreases-and_operands-list
decreases-and_operands-list l = length l.rest

abbrev pub invariant-or_operands-list : goal.invariant-or_operands-list
invariant-or_operands-list l =
    (with_front (map (λ o. (kw_or, conj_view o)) l.found.items) (many (is_operator 5) (sequence (one (pick_by (is_operator 5))) (conjunction_at l.depth)) (kinds l.rest)) ≡ many (is_operator 5) (sequence (one (pick_by (is_operator 5))) (conjunction_at l.depth)) (kinds l.fn.tokens))
    × (past_each (past_behind past_conjunction) l.found.items l.fn.tokens ≡ Some l.rest)

abbrev pub decreases-or_operands-list : goal.decreases-or_operands-list
decreases-or_operands-list l = length l.rest
