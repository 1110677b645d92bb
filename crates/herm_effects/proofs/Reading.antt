-- The paths that chains of operands read.
use Rattle.std.proofs.Common.{◌≡◌, List, [], ◌∷◌, ◌++◌, map, flat_map, Option, Some, None, refl, sym, ap, ap₂, ◌∙◌, append_assoc}
use Rattle.std.proofs.lemmas.List.{append-nil}
use Rattle.herm_model.specs.Paths.{Path}
use Rattle.herm_model.specs.Expressions.{Expression, Operator, operation, logical_or, logical_and, paths_read, Atom, literal, path, paths_among}
use Rattle.herm_syntax.specs.declared.expressions.UnaryOp.{UnaryOp}
use Rattle.herm_syntax.specs.declared.expressions.UnaryOp.TheVariants.{Neg, Not}
use Rattle.herm_typed.specs.declared.expressions.TypedProd.{TypedProd, out-TypedProd}
use Rattle.herm_typed.specs.declared.expressions.TypedSum.{TypedSum, out-TypedSum}
use Rattle.herm_typed.specs.declared.expressions.TypedConj.{TypedConj, out-TypedConj}
use Rattle.herm_typed.specs.declared.expressions.TypedExpr.{TypedExpr, out-TypedExpr}
use Rattle.herm_typed.specs.declared.expressions.TypedUnary.{TypedUnary}
use Rattle.herm_typed.specs.View.{typed_sum_op_view, typed_prod_op_view, signed_view, typed_expr_view, typed_conj_view, typed_comp_view, typed_sum_view, typed_prod_view, typed_primary_view, typed_unary_view}
use Rattle.herm_typed.specs.RaisedByExpressions.{chained}
use Rattle.herm_typed.proofs.Chains.{product_chain, sum_chain, conjunction_chain, expression_chain}

chain-reads : {X : Type 0} (f : X → Operator × Expression) (left : Expression) (xs : List X) → paths_read left ++ flat_map (λ x. paths_read (f x).1) xs ≡ paths_read (chained left (map f xs))
chain-reads f left [] = append-nil (paths_read left)
chain-reads f left (x ∷ xs) = sym (append_assoc (paths_read left) (paths_read (f x).1) (flat_map (λ x. paths_read (f x).1) xs)) ∙ chain-reads f (operation (f x).0 left (f x).1) xs

signed : (sign : Option UnaryOp) (e : Expression) → paths_read e ≡ paths_read (signed_view sign e)
signed None e = refl
signed (Some Neg) e = refl
signed (Some Not) e = refl

pub signed_reads : (u : TypedUnary) → paths_read (typed_primary_view u.primary) ≡ paths_read (typed_unary_view u)
signed_reads u = signed u.op (typed_primary_view u.primary)

pub product_reads : (n : TypedProd) → paths_read (typed_unary_view (out-TypedProd n).first) ++ flat_map (λ o. paths_read (typed_unary_view o.1)) (out-TypedProd n).rest.items ≡ paths_read (typed_prod_view n)
product_reads n = chain-reads (λ o. (typed_prod_op_view o.0, typed_unary_view o.1)) (typed_unary_view (out-TypedProd n).first) (out-TypedProd n).rest.items ∙ ap paths_read (sym (product_chain n))

pub sum_reads : (n : TypedSum) → paths_read (typed_prod_view (out-TypedSum n).first) ++ flat_map (λ o. paths_read (typed_prod_view o.1)) (out-TypedSum n).rest.items ≡ paths_read (typed_sum_view n)
sum_reads n = chain-reads (λ o. (typed_sum_op_view o.0, typed_prod_view o.1)) (typed_prod_view (out-TypedSum n).first) (out-TypedSum n).rest.items ∙ ap paths_read (sym (sum_chain n))

pub conjunction_reads : (n : TypedConj) → paths_read (typed_comp_view (out-TypedConj n).first) ++ flat_map (λ o. paths_read (typed_comp_view o)) (out-TypedConj n).rest.items ≡ paths_read (typed_conj_view n)
conjunction_reads n = chain-reads (λ o. (logical_and, typed_comp_view o)) (typed_comp_view (out-TypedConj n).first) (out-TypedConj n).rest.items ∙ ap paths_read (sym (conjunction_chain n))

pub expression_reads : (n : TypedExpr) → paths_read (typed_conj_view (out-TypedExpr n).first) ++ flat_map (λ o. paths_read (typed_conj_view o)) (out-TypedExpr n).rest.items ≡ paths_read (typed_expr_view n)
expression_reads n = chain-reads (λ o. (logical_or, typed_conj_view o)) (typed_conj_view (out-TypedExpr n).first) (out-TypedExpr n).rest.items ∙ ap paths_read (sym (expression_chain n))

-- atoms one by one
pub atoms_next : (a : Atom) (atoms : List Atom) → paths_among (a ∷ atoms) ≡ paths_among (a ∷ []) ++ paths_among atoms
atoms_next (literal l) atoms = refl
atoms_next (path p) atoms = refl

-- what a first operand reads was pushed, and then what the others read
pub pushed_both : {X : Type 0} (f : X → List Path) (before mid new first whole : List Path) (list items : List X) → list ≡ items → mid ≡ before ++ first → new ≡ mid ++ flat_map f list → first ++ flat_map f items ≡ whole → new ≡ before ++ whole
pushed_both f before mid new first whole list items same m n w =
    n ∙ (ap₂ (λ a xs. a ++ flat_map f xs) m same ∙ (append_assoc before first (flat_map f items) ∙ ap (before ++◌) w))
