-- What is found of chains of operands, from the left.
use Rattle.std.proofs.Common.{◌≡◌, ℕ, List, [], ◌∷◌, ◌++◌, map, Bool, true, false, ◌&&◌, Option, Some, None, refl, sym, ap, ap₂, ◌∙◌}
use Rattle.herm_model.specs.Lists.{all_pass}
use Rattle.herm_model.specs.Types.{TypeTable}
use Rattle.herm_model.specs.Expressions.{Literal, Expression, literal, Operator, logical_or, logical_and, operation, paths_read}
use Rattle.herm_syntax.specs.declared.expressions.UnaryOp.{UnaryOp}
use Rattle.herm_syntax.specs.declared.expressions.UnaryOp.TheVariants.{Neg, Not}
use Rattle.herm_typed.specs.declared.expressions.TypedProd.{TypedProd, out-TypedProd}
use Rattle.herm_typed.specs.declared.expressions.TypedSum.{TypedSum, out-TypedSum}
use Rattle.herm_typed.specs.declared.expressions.TypedConj.{TypedConj, out-TypedConj}
use Rattle.herm_typed.specs.declared.expressions.TypedExpr.{TypedExpr, out-TypedExpr}
use Rattle.herm_typed.specs.declared.expressions.TypedUnary.{TypedUnary}
use Rattle.herm_typed.specs.View.{typed_sum_op_view, typed_prod_op_view, signed_view, typed_expr_view, typed_conj_view, typed_comp_view, typed_sum_view, typed_prod_view, typed_primary_view, typed_unary_view}
use Rattle.herm_typed.specs.RaisedByExpressions.{chained}
use Rattle.herm_typed.proofs.Chains.{product_chain, sum_chain, conjunction_chain, expression_chain}
use Rattle.herm_naming.specs.Fits.{is_fit, gives, fits_literal, literal_gives}
use Rattle.herm_naming.specs.UnknownNames.{is_there, is_literal_there, literals_in}
use Rattle.herm_naming.specs.Copies.{copied, may_copy, may_copy_each}
use Rattle.herm_naming.specs.Fits.{type_of}
use Rattle.herm_judge.specs.Sight.{Sight, sight, operated, operated_each, signed}

and-assoc : (a b c : Bool) → (a && (b && c)) ≡ ((a && b) && c)
and-assoc true b c = refl
and-assoc false b c = refl

pub every_append : {X : Type 0} (test : X → Bool) (xs ys : List X) → all_pass test (xs ++ ys) ≡ (all_pass test xs && all_pass test ys)
every_append test [] ys = refl
every_append test (x ∷ xs) ys = ap (λ b. test x && b) (every_append test xs ys) ∙ and-assoc (test x) (all_pass test xs) (all_pass test ys)

and-true : (b : Bool) → (b && true) ≡ b
and-true true = refl
and-true false = refl

module _ (table : TypeTable) (types : List ℕ) where
  pub literal_sight : (l : Literal) (a b : Bool) (g : Option ℕ) → a ≡ is_literal_there table l → b ≡ fits_literal table l → g ≡ literal_gives table l
      → (let s : Sight = record { there = true; literals = a; fits = b; copies = true; gives = g } in s) ≡ sight table types (literal l)
  literal_sight l a b g e f h =
      ap (λ a. let s : Sight = record { there = true; literals = a; fits = b; copies = true; gives = g } in s) (e ∙ sym (and-true (is_literal_there table l)))
      ∙ (ap (λ b. let s : Sight = record { there = true; literals = is_literal_there table l && true; fits = b; copies = true; gives = g } in s) f
      ∙ ap (λ g. let s : Sight = record { there = true; literals = is_literal_there table l && true; fits = fits_literal table l; copies = true; gives = g } in s) h)

  pub operation_sight : (o : Operator) (left right : Expression) → operated table o (sight table types left) (sight table types right) ≡ sight table types (operation o left right)
  operation_sight o left right =
      sym (ap (λ b. record (sight table types (operation o left right)) { there = b }) (every_append (is_there table types) (paths_read left) (paths_read right))
      ∙ (ap (λ b. record (operated table o (sight table types left) (sight table types right)) { literals = b; copies = may_copy_each table types (copied left ++ copied right) }) (every_append (is_literal_there table) (literals_in left) (literals_in right))
      ∙ ap (λ b. record (operated table o (sight table types left) (sight table types right)) { copies = b }) (every_append (λ p. may_copy table (type_of table types p)) (copied left) (copied right))))

  pub chain_sight : (left : Expression) (os : List (Operator × Expression)) → operated_each table (sight table types left) (map (λ o. (o.0, sight table types o.1)) os) ≡ sight table types (chained left os)
  chain_sight left [] = refl
  chain_sight left (o ∷ os) = ap (λ s. operated_each table s (map (λ o. (o.0, sight table types o.1)) os)) (operation_sight o.0 left o.1) ∙ chain_sight (operation o.0 left o.1) os

  signed_is : (sign : Option UnaryOp) (e : Expression) → signed table sign (sight table types e) ≡ sight table types (signed_view sign e)
  signed_is None e = refl
  signed_is (Some Neg) e = refl
  signed_is (Some Not) e = refl

  pub signed_sight : (u : TypedUnary) (s : Sight) → s ≡ sight table types (typed_primary_view u.primary) → signed table u.op s ≡ sight table types (typed_unary_view u)
  signed_sight u s e = ap (signed table u.op) e ∙ signed_is u.op (typed_primary_view u.primary)

  map-twice : {X Y Z : Type 0} (g : Y → Z) (f : X → Y) (xs : List X) → map g (map f xs) ≡ map (λ x. g (f x)) xs
  map-twice g f [] = refl
  map-twice g f (x ∷ xs) = ap (g (f x) ∷◌) (map-twice g f xs)

  along : {X : Type 0} (f : X → Operator × Expression) (left : Expression) (xs : List X) → operated_each table (sight table types left) (map (λ x. ((f x).0, sight table types (f x).1)) xs) ≡ sight table types (chained left (map f xs))
  along f left xs = ap (operated_each table (sight table types left)) (sym (map-twice (λ o. (o.0, sight table types o.1)) f xs)) ∙ chain_sight left (map f xs)

  pub product_sight : (n : TypedProd) → operated_each table (sight table types (typed_unary_view (out-TypedProd n).first)) (map (λ o. (typed_prod_op_view o.0, sight table types (typed_unary_view o.1))) (out-TypedProd n).rest.items) ≡ sight table types (typed_prod_view n)
  product_sight n = along (λ o. (typed_prod_op_view o.0, typed_unary_view o.1)) (typed_unary_view (out-TypedProd n).first) (out-TypedProd n).rest.items ∙ ap (sight table types) (sym (product_chain n))

  pub sum_sight : (n : TypedSum) → operated_each table (sight table types (typed_prod_view (out-TypedSum n).first)) (map (λ o. (typed_sum_op_view o.0, sight table types (typed_prod_view o.1))) (out-TypedSum n).rest.items) ≡ sight table types (typed_sum_view n)
  sum_sight n = along (λ o. (typed_sum_op_view o.0, typed_prod_view o.1)) (typed_prod_view (out-TypedSum n).first) (out-TypedSum n).rest.items ∙ ap (sight table types) (sym (sum_chain n))

  pub conjunction_sight : (n : TypedConj) → operated_each table (sight table types (typed_comp_view (out-TypedConj n).first)) (map (λ o. (logical_and, sight table types (typed_comp_view o))) (out-TypedConj n).rest.items) ≡ sight table types (typed_conj_view n)
  conjunction_sight n = along (λ o. (logical_and, typed_comp_view o)) (typed_comp_view (out-TypedConj n).first) (out-TypedConj n).rest.items ∙ ap (sight table types) (sym (conjunction_chain n))

  pub expression_sight : (n : TypedExpr) → operated_each table (sight table types (typed_conj_view (out-TypedExpr n).first)) (map (λ o. (logical_or, sight table types (typed_conj_view o))) (out-TypedExpr n).rest.items) ≡ sight table types (typed_expr_view n)
  expression_sight n = along (λ o. (logical_or, typed_conj_view o)) (typed_conj_view (out-TypedExpr n).first) (out-TypedExpr n).rest.items ∙ ap (sight table types) (sym (expression_chain n))
