-- What is done for chains of operands.
use Rattle.std.proofs.Common.{◌≡◌, List, [], ◌∷◌, ◌++◌, map, flat_map, Option, Some, None, refl, sym, ap, ◌∙◌, append_assoc}
use Rattle.herm_model.specs.Expressions.{Expression, Operator, logical_or, logical_and, operation}
use Rattle.herm_typed.specs.declared.expressions.TypedProd.{TypedProd, out-TypedProd}
use Rattle.herm_typed.specs.declared.expressions.TypedSum.{TypedSum, out-TypedSum}
use Rattle.herm_typed.specs.declared.expressions.TypedConj.{TypedConj, out-TypedConj}
use Rattle.herm_typed.specs.declared.expressions.TypedExpr.{TypedExpr, out-TypedExpr}
use Rattle.herm_typed.specs.declared.expressions.TypedUnary.{TypedUnary}
use Rattle.herm_syntax.specs.declared.expressions.UnaryOp.{UnaryOp}
use Rattle.herm_syntax.specs.declared.expressions.UnaryOp.TheVariants.{Neg, Not}
use Rattle.herm_typed.specs.View.{typed_sum_op_view, typed_prod_op_view, signed_view, typed_expr_view, typed_conj_view, typed_comp_view, typed_sum_view, typed_prod_view, typed_primary_view, typed_unary_view}
use Rattle.herm_typed.specs.RaisedByExpressions.{chained}
use Rattle.herm_typed.proofs.Chains.{product_chain, sum_chain, conjunction_chain, expression_chain}
use Rattle.herm_fronts.specs.Operands.{Operand, operands_of, operands_behind, signed_operands}

signed_done : (sign : Option UnaryOp) (e : Expression) → operands_of e ++ signed_operands sign ≡ operands_of (signed_view sign e)
signed_done None e = none_behind (operands_of e)
  where
    none_behind : (xs : List Operand) → xs ++ [] ≡ xs
    none_behind [] = refl
    none_behind (x ∷ xs) = ap (x ∷◌) (none_behind xs)
signed_done (Some Neg) e = refl
signed_done (Some Not) e = refl

pub unary_done : (u : TypedUnary) → operands_of (typed_primary_view u.primary) ++ signed_operands u.op ≡ operands_of (typed_unary_view u)
unary_done u = signed_done u.op (typed_primary_view u.primary)

chain_done : {X : Type 0} (f : X → Operator × Expression) (left : Expression) (xs : List X) → operands_of left ++ flat_map (λ x. operands_behind (f x).0 (f x).1) xs ≡ operands_of (chained left (map f xs))
chain_done f left [] = none_behind (operands_of left)
  where
    none_behind : (ys : List Operand) → ys ++ [] ≡ ys
    none_behind [] = refl
    none_behind (y ∷ ys) = ap (y ∷◌) (none_behind ys)
chain_done f left (x ∷ xs) = sym (append_assoc (operands_of left) (operands_behind (f x).0 (f x).1) (flat_map (λ x. operands_behind (f x).0 (f x).1) xs)) ∙ chain_done f (operation (f x).0 left (f x).1) xs

pub product_done : (n : TypedProd) → operands_of (typed_unary_view (out-TypedProd n).first) ++ flat_map (λ o. operands_behind (typed_prod_op_view o.0) (typed_unary_view o.1)) (out-TypedProd n).rest.items ≡ operands_of (typed_prod_view n)
product_done n = chain_done (λ o. (typed_prod_op_view o.0, typed_unary_view o.1)) (typed_unary_view (out-TypedProd n).first) (out-TypedProd n).rest.items ∙ ap operands_of (sym (product_chain n))

pub sum_done : (n : TypedSum) → operands_of (typed_prod_view (out-TypedSum n).first) ++ flat_map (λ o. operands_behind (typed_sum_op_view o.0) (typed_prod_view o.1)) (out-TypedSum n).rest.items ≡ operands_of (typed_sum_view n)
sum_done n = chain_done (λ o. (typed_sum_op_view o.0, typed_prod_view o.1)) (typed_prod_view (out-TypedSum n).first) (out-TypedSum n).rest.items ∙ ap operands_of (sym (sum_chain n))

pub conjunction_done : (n : TypedConj) → operands_of (typed_comp_view (out-TypedConj n).first) ++ flat_map (λ o. operands_behind logical_and (typed_comp_view o)) (out-TypedConj n).rest.items ≡ operands_of (typed_conj_view n)
conjunction_done n = chain_done (λ o. (logical_and, typed_comp_view o)) (typed_comp_view (out-TypedConj n).first) (out-TypedConj n).rest.items ∙ ap operands_of (sym (conjunction_chain n))

pub expression_done : (n : TypedExpr) → operands_of (typed_conj_view (out-TypedExpr n).first) ++ flat_map (λ o. operands_behind logical_or (typed_conj_view o)) (out-TypedExpr n).rest.items ≡ operands_of (typed_expr_view n)
expression_done n = chain_done (λ o. (logical_or, typed_conj_view o)) (typed_conj_view (out-TypedExpr n).first) (out-TypedExpr n).rest.items ∙ ap operands_of (sym (expression_chain n))

-- what was pushed at once and what was pushed in two parts
pub pushed_twice : {X : Type 0} (old mid new a b whole : List X) → mid ≡ old ++ a → new ≡ mid ++ b → a ++ b ≡ whole → new ≡ old ++ whole
pushed_twice old mid new a b whole e f g = f ∙ (ap (λ xs. xs ++ b) e ∙ (append_assoc old a b ∙ ap (λ xs. old ++ xs) g))
