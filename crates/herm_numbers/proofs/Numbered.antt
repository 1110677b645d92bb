-- Chains of operands by number: as the code's lists have them, and as the grammar's trees.
use Rattle.std.proofs.Common.{◌≡◌, map, option_map, refl, sym, ap, ap₂, ◌∙◌, Vec, Global}
use denote.Hole.Carrier
use Rattle.herm_model.specs.Expressions.{Expression, logical_or, logical_and, operation}
use Rattle.herm_syntax.specs.declared.expressions.CompOp.{CompOp}
use Rattle.herm_syntax.specs.declared.expressions.CompOp.TheVariants as compares
use Rattle.herm_syntax.specs.declared.expressions.ProdOp.{ProdOp}
use Rattle.herm_syntax.specs.declared.expressions.ProdOp.TheVariants as products
use Rattle.herm_syntax.specs.declared.expressions.SumOp.{SumOp}
use Rattle.herm_syntax.specs.declared.expressions.SumOp.TheVariants as sums
use Rattle.herm_syntax.specs.declared.expressions.Conj.{Conj, out-Conj}
use Rattle.herm_syntax.specs.declared.expressions.Expr.{Expr, out-Expr}
use Rattle.herm_syntax.specs.declared.expressions.Prod.{Prod, out-Prod}
use Rattle.herm_syntax.specs.declared.expressions.Sum.{Sum, out-Sum}
use Rattle.herm_syntax.specs.declared.expressions.Primary.TheBlock as expressions
use Rattle.herm_syntax.specs.View.{expr_view, conjs_view, conj_view, comps_view, comp_view, sum_view, prods_view, prod_view, unaries_view, primary_view, comp_op_view, sum_op_view, prod_op_view, unary_op_view}
use Rattle.herm_naming.specs.Numbers.{Scope, operator_of, signed, expression_number, joined, primary_number}
use Rattle.herm_typed.specs.declared.expressions.TypedUnary.{TypedUnary}
use Rattle.herm_typed.specs.declared.expressions.TypedProd.{TypedProd, roll-TypedProd, out-roll-TypedProd}
use Rattle.herm_typed.specs.declared.expressions.TypedSum.{roll-TypedSum, out-roll-TypedSum}
use Rattle.herm_typed.specs.declared.expressions.TypedComp.{TypedComp}
use Rattle.herm_typed.specs.declared.expressions.TypedConj.{TypedConj, roll-TypedConj, out-roll-TypedConj}
use Rattle.herm_typed.specs.declared.expressions.TypedExpr.{roll-TypedExpr, out-roll-TypedExpr}
use Rattle.herm_typed.specs.View.{typed_comp_op_view, typed_sum_op_view, typed_prod_op_view, typed_expr_view, typed_conj_view, typed_comp_view, typed_sum_view, typed_prod_view, typed_unary_view}
use Rattle.herm_typed.specs.RaisedByExpressions.{chained}
use Rattle.herm_typed.proofs.Chains.{product_chain, sum_chain, conjunction_chain, expression_chain}
use Rattle.herm_numbers.specs.View.{unary_number, behind_product, behind_sum, behind_and, behind_or, product_number, sum_number, and_number, or_number}

product_operator : (o : ProdOp) → operator_of (prod_op_view o) ≡ typed_prod_op_view o
product_operator products.Mul = refl
product_operator products.Div = refl
product_operator products.Mod = refl

sum_operator : (o : SumOp) → operator_of (sum_op_view o) ≡ typed_sum_op_view o
sum_operator sums.Add = refl
sum_operator sums.Sub = refl
sum_operator sums.Cat = refl

pub operator_seen : (o : CompOp) → typed_comp_op_view o ≡ operator_of (comp_op_view o)
operator_seen compares.Eq = refl
operator_seen compares.Ne = refl
operator_seen compares.Lt = refl
operator_seen compares.Le = refl
operator_seen compares.Gt = refl
operator_seen compares.Ge = refl

module _ (s : Scope) where
  product_rows : {m : _} (rest : expressions.Row_of-Prod-rest-2 m) (left : Expression) → joined s left (unaries_view rest) ≡ chained left (map (product_number s) (expressions.items-the_row-Prod-rest-2 m rest))
  product_rows expressions.end_of-Prod-rest-2 left = refl
  product_rows (expressions.more_of-Prod-rest-2 o sign p rest) left =
      product_rows rest (operation (operator_of (prod_op_view o)) left (signed (option_map unary_op_view sign) (primary_number s (primary_view p))))
      ∙ ap (λ k. chained (operation k left (signed (option_map unary_op_view sign) (primary_number s (primary_view p)))) (map (product_number s) (expressions.items-the_row-Prod-rest-2 _ rest))) (product_operator o)

  product_seen : (n : Prod) → expression_number s (prod_view n) ≡ chained (unary_number s (out-Prod n).first) (map (product_number s) (out-Prod n).rest.items)
  unfolding out-Prod denote.Hole.Carrier.out
  product_seen (expressions.struct-Prod sign p shape rest) =
      product_rows rest (signed (option_map unary_op_view sign) (primary_number s (primary_view p)))
      ∙ ap (λ items. chained (signed (option_map unary_op_view sign) (primary_number s (primary_view p))) (map (product_number s) items)) (sym (expressions.items_shown-the_row-Prod-rest-2-2 shape rest))

  pub product_made : (n : Prod) (first : TypedUnary) (rest : Vec (ProdOp × TypedUnary) Global) → typed_unary_view first ≡ unary_number s (out-Prod n).first
      → map behind_product rest.items ≡ map (product_number s) (out-Prod n).rest.items → typed_prod_view (roll-TypedProd (record { first = first; rest = rest })) ≡ expression_number s (prod_view n)
  product_made n first rest e f =
      product_chain (roll-TypedProd (record { first = first; rest = rest }))
      ∙ (ap (λ r. chained (typed_unary_view r.first) (map behind_product r.rest.items)) (out-roll-TypedProd (record { first = first; rest = rest }))
      ∙ (ap₂ chained e f ∙ sym (product_seen n)))

  sum_rows : {m : _} (rest : expressions.Row_of-Sum-rest-2 m) (left : Expression) → joined s left (prods_view rest) ≡ chained left (map (sum_number s) (expressions.items-the_row-Sum-rest-2 m rest))
  sum_rows expressions.end_of-Sum-rest-2 left = refl
  sum_rows (expressions.more_of-Sum-rest-2 o p rest) left =
      sum_rows rest (operation (operator_of (sum_op_view o)) left (expression_number s (prod_view p)))
      ∙ ap (λ k. chained (operation k left (expression_number s (prod_view p))) (map (sum_number s) (expressions.items-the_row-Sum-rest-2 _ rest))) (sum_operator o)

  sum_seen : (n : Sum) → expression_number s (sum_view n) ≡ chained (expression_number s (prod_view (out-Sum n).first)) (map (sum_number s) (out-Sum n).rest.items)
  unfolding out-Sum denote.Hole.Carrier.out
  sum_seen (expressions.struct-Sum first shape rest) =
      sum_rows rest (expression_number s (prod_view first))
      ∙ ap (λ items. chained (expression_number s (prod_view first)) (map (sum_number s) items)) (sym (expressions.items_shown-the_row-Sum-rest-2-3 shape rest))

  pub sum_made : (n : Sum) (first : TypedProd) (rest : Vec (SumOp × TypedProd) Global) → typed_prod_view first ≡ expression_number s (prod_view (out-Sum n).first)
      → map behind_sum rest.items ≡ map (sum_number s) (out-Sum n).rest.items → typed_sum_view (roll-TypedSum (record { first = first; rest = rest })) ≡ expression_number s (sum_view n)
  sum_made n first rest e f =
      sum_chain (roll-TypedSum (record { first = first; rest = rest }))
      ∙ (ap (λ r. chained (typed_prod_view r.first) (map behind_sum r.rest.items)) (out-roll-TypedSum (record { first = first; rest = rest }))
      ∙ (ap₂ chained e f ∙ sym (sum_seen n)))

  both_rows : {m : _} (rest : expressions.Row_of-Comp m) (left : Expression) → joined s left (comps_view rest) ≡ chained left (map (and_number s) (expressions.items-the_row-Comp m rest))
  both_rows expressions.end_of-Comp left = refl
  both_rows (expressions.more_of-Comp c rest) left = both_rows rest (operation logical_and left (expression_number s (comp_view c)))

  conjunction_seen : (n : Conj) → expression_number s (conj_view n) ≡ chained (expression_number s (comp_view (out-Conj n).first)) (map (and_number s) (out-Conj n).rest.items)
  unfolding out-Conj denote.Hole.Carrier.out
  conjunction_seen (expressions.struct-Conj first shape rest) =
      both_rows rest (expression_number s (comp_view first))
      ∙ ap (λ items. chained (expression_number s (comp_view first)) (map (and_number s) items)) (sym (expressions.items_shown-the_row-Comp-0 shape rest))

  pub conjunction_made : (n : Conj) (first : TypedComp) (rest : Vec TypedComp Global) → typed_comp_view first ≡ expression_number s (comp_view (out-Conj n).first)
      → map behind_and rest.items ≡ map (and_number s) (out-Conj n).rest.items → typed_conj_view (roll-TypedConj (record { first = first; rest = rest })) ≡ expression_number s (conj_view n)
  conjunction_made n first rest e f =
      conjunction_chain (roll-TypedConj (record { first = first; rest = rest }))
      ∙ (ap (λ r. chained (typed_comp_view r.first) (map behind_and r.rest.items)) (out-roll-TypedConj (record { first = first; rest = rest }))
      ∙ (ap₂ chained e f ∙ sym (conjunction_seen n)))

  either_rows : {m : _} (rest : expressions.Row_of-Conj m) (left : Expression) → joined s left (conjs_view rest) ≡ chained left (map (or_number s) (expressions.items-the_row-Conj m rest))
  either_rows expressions.end_of-Conj left = refl
  either_rows (expressions.more_of-Conj c rest) left = either_rows rest (operation logical_or left (expression_number s (conj_view c)))

  expression_seen : (n : Expr) → expression_number s (expr_view n) ≡ chained (expression_number s (conj_view (out-Expr n).first)) (map (or_number s) (out-Expr n).rest.items)
  unfolding out-Expr denote.Hole.Carrier.out
  expression_seen (expressions.struct-Expr first shape rest) =
      either_rows rest (expression_number s (conj_view first))
      ∙ ap (λ items. chained (expression_number s (conj_view first)) (map (or_number s) items)) (sym (expressions.items_shown-the_row-Conj-1 shape rest))

  pub expression_made : (n : Expr) (first : TypedConj) (rest : Vec TypedConj Global) → typed_conj_view first ≡ expression_number s (conj_view (out-Expr n).first)
      → map behind_or rest.items ≡ map (or_number s) (out-Expr n).rest.items → typed_expr_view (roll-TypedExpr (record { first = first; rest = rest })) ≡ expression_number s (expr_view n)
  expression_made n first rest e f =
      expression_chain (roll-TypedExpr (record { first = first; rest = rest }))
      ∙ (ap (λ r. chained (typed_conj_view r.first) (map behind_or r.rest.items)) (out-roll-TypedExpr (record { first = first; rest = rest }))
      ∙ (ap₂ chained e f ∙ sym (expression_seen n)))
