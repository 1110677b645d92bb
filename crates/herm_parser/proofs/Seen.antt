-- How trees of the code are seen: what stands in a list of the code is a list in the grammar's tree.
use Rattle.std.proofs.Common.{◌≡◌, List, map, Option, Some, None, refl, sym, ap, ◌∙◌, Vec, Global}
use denote.Hole.Carrier
use Rattle.herm_alphabet.specs.declared.token.Token.{Token}
use Rattle.herm_syntax.specs.declared.expressions.Comp.{Comp}
use Rattle.herm_syntax.specs.declared.expressions.Conj.{Conj, roll-Conj, out-Conj, out-roll-Conj}
use Rattle.herm_syntax.specs.declared.expressions.Expr.{Expr, roll-Expr, out-Expr, out-roll-Expr}
use Rattle.herm_syntax.specs.declared.expressions.Primary.TheBlock as expressions
use Rattle.herm_syntax.specs.declared.expressions.Prod.{Prod, roll-Prod, out-Prod, out-roll-Prod}
use Rattle.herm_syntax.specs.declared.expressions.ProdOp.{ProdOp}
use Rattle.herm_syntax.specs.declared.expressions.Sum.{Sum, roll-Sum, out-Sum, out-roll-Sum}
use Rattle.herm_syntax.specs.declared.expressions.SumOp.{SumOp}
use Rattle.herm_syntax.specs.declared.expressions.Unary.{Unary}
use Rattle.herm_syntax.specs.KeywordSymbols.{kw_and, kw_or}
use Rattle.herm_syntax.specs.Trees.{Chain, Operand}
use Rattle.herm_syntax.specs.ReadExpressions.{operands_of}
use Rattle.herm_syntax.specs.View.{expr_view, conj_view, comp_view, sum_view, prod_view, conjs_view, comps_view, prods_view, unaries_view, sum_op_view, prod_op_view, unary_view}
use Rattle.herm_parser.specs.Along.{◌>>=◌, past_each, past_behind, past_expression, past_conjunction, past_comparison, past_sum, past_product, past_unary, past_conjunctions, past_comparisons, past_products, past_unaries}

alike : (first : Option (List Token)) (f g : List Token → Option (List Token)) → ((s : List Token) → f s ≡ g s) → (first >>= f) ≡ (first >>= g)
alike None f g same = refl
alike (Some s) f g same = same s

conjunction_rows : {m : _} (others : expressions.Row_of-Comp m) → comps_view others ≡ operands_of (map (λ o. (kw_and, comp_view o)) (expressions.items-the_row-Comp m others))
conjunction_rows expressions.end_of-Comp = refl
conjunction_rows (expressions.more_of-Comp c others) = ap (λ t. Operand (kw_and) (comp_view c) t) (conjunction_rows others)

conjunction_out : (n : Conj) → conj_view n ≡ Chain (comp_view (out-Conj n).first) (operands_of (map (λ o. (kw_and, comp_view o)) (out-Conj n).rest.items))
unfolding out-Conj denote.Hole.Carrier.out
conjunction_out (expressions.struct-Conj first shape others) =
    ap (λ t. Chain (comp_view first) t) (conjunction_rows others)
    ∙ ap (λ items. Chain (comp_view first) (operands_of (map (λ o. (kw_and, comp_view o)) items))) (sym (expressions.items_shown-the_row-Comp-0 shape others))

pub conjunction_seen : (first : Comp) (others : Vec (Comp) Global) → conj_view (roll-Conj (record { first = first; rest = others })) ≡ Chain (comp_view first) (operands_of (map (λ o. (kw_and, comp_view o)) others.items))
conjunction_seen first others = conjunction_out (roll-Conj (record { first = first; rest = others })) ∙ ap (λ n. Chain (comp_view n.first) (operands_of (map (λ o. (kw_and, comp_view o)) n.rest.items))) (out-roll-Conj (record { first = first; rest = others }))

conjunction_row_along : {m : _} (others : expressions.Row_of-Comp m) (tokens : List Token) → past_comparisons others tokens ≡ past_each (past_behind past_comparison) (expressions.items-the_row-Comp m others) tokens
conjunction_row_along expressions.end_of-Comp tokens = refl
conjunction_row_along (expressions.more_of-Comp c others) tokens =
    alike ((past_behind past_comparison) c tokens) (past_comparisons others) (past_each (past_behind past_comparison) (expressions.items-the_row-Comp _ others)) (conjunction_row_along others)

conjunction_out_along : (n : Conj) (tokens : List Token) → past_conjunction n tokens ≡ (past_comparison (out-Conj n).first tokens >>= past_each (past_behind past_comparison) (out-Conj n).rest.items)
unfolding out-Conj denote.Hole.Carrier.out
conjunction_out_along (expressions.struct-Conj first shape others) tokens =
    alike (past_comparison first tokens) (past_comparisons others) (past_each (past_behind past_comparison) (expressions.items-the_row-Comp _ others)) (conjunction_row_along others)
    ∙ ap (λ items. past_comparison first tokens >>= past_each (past_behind past_comparison) items) (sym (expressions.items_shown-the_row-Comp-0 shape others))

pub conjunction_along : (first : Comp) (others : Vec (Comp) Global) (tokens : List Token) → past_conjunction (roll-Conj (record { first = first; rest = others })) tokens ≡ (past_comparison first tokens >>= past_each (past_behind past_comparison) others.items)
conjunction_along first others tokens = conjunction_out_along (roll-Conj (record { first = first; rest = others })) tokens ∙ ap (λ n. past_comparison n.first tokens >>= past_each (past_behind past_comparison) n.rest.items) (out-roll-Conj (record { first = first; rest = others }))

expression_rows : {m : _} (others : expressions.Row_of-Conj m) → conjs_view others ≡ operands_of (map (λ o. (kw_or, conj_view o)) (expressions.items-the_row-Conj m others))
expression_rows expressions.end_of-Conj = refl
expression_rows (expressions.more_of-Conj c others) = ap (λ t. Operand (kw_or) (conj_view c) t) (expression_rows others)

expression_out : (n : Expr) → expr_view n ≡ Chain (conj_view (out-Expr n).first) (operands_of (map (λ o. (kw_or, conj_view o)) (out-Expr n).rest.items))
unfolding out-Expr denote.Hole.Carrier.out
expression_out (expressions.struct-Expr first shape others) =
    ap (λ t. Chain (conj_view first) t) (expression_rows others)
    ∙ ap (λ items. Chain (conj_view first) (operands_of (map (λ o. (kw_or, conj_view o)) items))) (sym (expressions.items_shown-the_row-Conj-1 shape others))

pub expression_seen : (first : Conj) (others : Vec (Conj) Global) → expr_view (roll-Expr (record { first = first; rest = others })) ≡ Chain (conj_view first) (operands_of (map (λ o. (kw_or, conj_view o)) others.items))
expression_seen first others = expression_out (roll-Expr (record { first = first; rest = others })) ∙ ap (λ n. Chain (conj_view n.first) (operands_of (map (λ o. (kw_or, conj_view o)) n.rest.items))) (out-roll-Expr (record { first = first; rest = others }))

expression_row_along : {m : _} (others : expressions.Row_of-Conj m) (tokens : List Token) → past_conjunctions others tokens ≡ past_each (past_behind past_conjunction) (expressions.items-the_row-Conj m others) tokens
expression_row_along expressions.end_of-Conj tokens = refl
expression_row_along (expressions.more_of-Conj c others) tokens =
    alike ((past_behind past_conjunction) c tokens) (past_conjunctions others) (past_each (past_behind past_conjunction) (expressions.items-the_row-Conj _ others)) (expression_row_along others)

expression_out_along : (n : Expr) (tokens : List Token) → past_expression n tokens ≡ (past_conjunction (out-Expr n).first tokens >>= past_each (past_behind past_conjunction) (out-Expr n).rest.items)
unfolding out-Expr denote.Hole.Carrier.out
expression_out_along (expressions.struct-Expr first shape others) tokens =
    alike (past_conjunction first tokens) (past_conjunctions others) (past_each (past_behind past_conjunction) (expressions.items-the_row-Conj _ others)) (expression_row_along others)
    ∙ ap (λ items. past_conjunction first tokens >>= past_each (past_behind past_conjunction) items) (sym (expressions.items_shown-the_row-Conj-1 shape others))

pub expression_along : (first : Conj) (others : Vec (Conj) Global) (tokens : List Token) → past_expression (roll-Expr (record { first = first; rest = others })) tokens ≡ (past_conjunction first tokens >>= past_each (past_behind past_conjunction) others.items)
expression_along first others tokens = expression_out_along (roll-Expr (record { first = first; rest = others })) tokens ∙ ap (λ n. past_conjunction n.first tokens >>= past_each (past_behind past_conjunction) n.rest.items) (out-roll-Expr (record { first = first; rest = others }))

sum_rows : {m : _} (others : expressions.Row_of-Sum-rest-2 m) → prods_view others ≡ operands_of (map (λ o. (sum_op_view o.0, prod_view o.1)) (expressions.items-the_row-Sum-rest-2 m others))
sum_rows expressions.end_of-Sum-rest-2 = refl
sum_rows (expressions.more_of-Sum-rest-2 operator p others) = ap (λ t. Operand (sum_op_view operator) (prod_view p) t) (sum_rows others)

sum_out : (n : Sum) → sum_view n ≡ Chain (prod_view (out-Sum n).first) (operands_of (map (λ o. (sum_op_view o.0, prod_view o.1)) (out-Sum n).rest.items))
unfolding out-Sum denote.Hole.Carrier.out
sum_out (expressions.struct-Sum first shape others) =
    ap (λ t. Chain (prod_view first) t) (sum_rows others)
    ∙ ap (λ items. Chain (prod_view first) (operands_of (map (λ o. (sum_op_view o.0, prod_view o.1)) items))) (sym (expressions.items_shown-the_row-Sum-rest-2-3 shape others))

pub sum_seen : (first : Prod) (others : Vec (SumOp × Prod) Global) → sum_view (roll-Sum (record { first = first; rest = others })) ≡ Chain (prod_view first) (operands_of (map (λ o. (sum_op_view o.0, prod_view o.1)) others.items))
sum_seen first others = sum_out (roll-Sum (record { first = first; rest = others })) ∙ ap (λ n. Chain (prod_view n.first) (operands_of (map (λ o. (sum_op_view o.0, prod_view o.1)) n.rest.items))) (out-roll-Sum (record { first = first; rest = others }))

sum_row_along : {m : _} (others : expressions.Row_of-Sum-rest-2 m) (tokens : List Token) → past_products others tokens ≡ past_each (λ o. past_behind past_product o.1) (expressions.items-the_row-Sum-rest-2 m others) tokens
sum_row_along expressions.end_of-Sum-rest-2 tokens = refl
sum_row_along (expressions.more_of-Sum-rest-2 operator p others) tokens =
    alike (past_behind past_product p tokens) (past_products others) (past_each (λ o. past_behind past_product o.1) (expressions.items-the_row-Sum-rest-2 _ others)) (sum_row_along others)

sum_out_along : (n : Sum) (tokens : List Token) → past_sum n tokens ≡ (past_product (out-Sum n).first tokens >>= past_each (λ o. past_behind past_product o.1) (out-Sum n).rest.items)
unfolding out-Sum denote.Hole.Carrier.out
sum_out_along (expressions.struct-Sum first shape others) tokens =
    alike (past_product first tokens) (past_products others) (past_each (λ o. past_behind past_product o.1) (expressions.items-the_row-Sum-rest-2 _ others)) (sum_row_along others)
    ∙ ap (λ items. past_product first tokens >>= past_each (λ o. past_behind past_product o.1) items) (sym (expressions.items_shown-the_row-Sum-rest-2-3 shape others))

pub sum_along : (first : Prod) (others : Vec (SumOp × Prod) Global) (tokens : List Token) → past_sum (roll-Sum (record { first = first; rest = others })) tokens ≡ (past_product first tokens >>= past_each (λ o. past_behind past_product o.1) others.items)
sum_along first others tokens = sum_out_along (roll-Sum (record { first = first; rest = others })) tokens ∙ ap (λ n. past_product n.first tokens >>= past_each (λ o. past_behind past_product o.1) n.rest.items) (out-roll-Sum (record { first = first; rest = others }))

product_rows : {m : _} (others : expressions.Row_of-Prod-rest-2 m) → unaries_view others ≡ operands_of (map (λ o. (prod_op_view o.0, unary_view o.1)) (expressions.items-the_row-Prod-rest-2 m others))
product_rows expressions.end_of-Prod-rest-2 = refl
product_rows (expressions.more_of-Prod-rest-2 operator s p others) = ap (λ t. Operand (prod_op_view operator) (unary_view (record { op = s; primary = p })) t) (product_rows others)

product_out : (n : Prod) → prod_view n ≡ Chain (unary_view (out-Prod n).first) (operands_of (map (λ o. (prod_op_view o.0, unary_view o.1)) (out-Prod n).rest.items))
unfolding out-Prod denote.Hole.Carrier.out
product_out (expressions.struct-Prod operator p shape others) =
    ap (λ t. Chain (unary_view (record { op = operator; primary = p })) t) (product_rows others)
    ∙ ap (λ items. Chain (unary_view (record { op = operator; primary = p })) (operands_of (map (λ o. (prod_op_view o.0, unary_view o.1)) items))) (sym (expressions.items_shown-the_row-Prod-rest-2-2 shape others))

pub product_seen : (first : Unary) (others : Vec (ProdOp × Unary) Global) → prod_view (roll-Prod (record { first = first; rest = others })) ≡ Chain (unary_view first) (operands_of (map (λ o. (prod_op_view o.0, unary_view o.1)) others.items))
product_seen first others = product_out (roll-Prod (record { first = first; rest = others })) ∙ ap (λ n. Chain (unary_view n.first) (operands_of (map (λ o. (prod_op_view o.0, unary_view o.1)) n.rest.items))) (out-roll-Prod (record { first = first; rest = others }))

product_row_along : {m : _} (others : expressions.Row_of-Prod-rest-2 m) (tokens : List Token) → past_unaries others tokens ≡ past_each (λ o. past_behind past_unary o.1) (expressions.items-the_row-Prod-rest-2 m others) tokens
product_row_along expressions.end_of-Prod-rest-2 tokens = refl
product_row_along (expressions.more_of-Prod-rest-2 operator s p others) tokens =
    alike (past_behind past_unary (record { op = s; primary = p }) tokens) (past_unaries others) (past_each (λ o. past_behind past_unary o.1) (expressions.items-the_row-Prod-rest-2 _ others)) (product_row_along others)

product_out_along : (n : Prod) (tokens : List Token) → past_product n tokens ≡ (past_unary (out-Prod n).first tokens >>= past_each (λ o. past_behind past_unary o.1) (out-Prod n).rest.items)
unfolding out-Prod denote.Hole.Carrier.out
product_out_along (expressions.struct-Prod operator p shape others) tokens =
    alike (past_unary (record { op = operator; primary = p }) tokens) (past_unaries others) (past_each (λ o. past_behind past_unary o.1) (expressions.items-the_row-Prod-rest-2 _ others)) (product_row_along others)
    ∙ ap (λ items. past_unary (record { op = operator; primary = p }) tokens >>= past_each (λ o. past_behind past_unary o.1) items) (sym (expressions.items_shown-the_row-Prod-rest-2-2 shape others))

pub product_along : (first : Unary) (others : Vec (ProdOp × Unary) Global) (tokens : List Token) → past_product (roll-Prod (record { first = first; rest = others })) tokens ≡ (past_unary first tokens >>= past_each (λ o. past_behind past_unary o.1) others.items)
product_along first others tokens = product_out_along (roll-Prod (record { first = first; rest = others })) tokens ∙ ap (λ n. past_unary n.first tokens >>= past_each (λ o. past_behind past_unary o.1) n.rest.items) (out-roll-Prod (record { first = first; rest = others }))
