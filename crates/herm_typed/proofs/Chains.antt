-- What chains of operands can raise, and how the lists of the code stand for chains.
use Rattle.std.proofs.Math.Seq.{drop-cons}
use Rattle.std.proofs.Common.{◌≡◌, ℕ, ◌+◌, ◌<◌, length, drop, get_or, add-one, List, [], ◌∷◌, map, Bool, true, false, ◌||◌, Option, Some, None, refl, sym, ap, ap₂, ◌∙◌}
use denote.Hole.Carrier
use Rattle.herm_model.specs.Expressions.{Expression, Operator, logical_or, logical_and, operation, is_arithmetic, is_joining, can_overflow, can_deplete}
use Rattle.herm_typed.specs.declared.expressions.TypedProd.{TypedProd, out-TypedProd}
use Rattle.herm_typed.specs.declared.expressions.TypedSum.{TypedSum, out-TypedSum}
use Rattle.herm_typed.specs.declared.expressions.TypedConj.{TypedConj, out-TypedConj}
use Rattle.herm_typed.specs.declared.expressions.TypedExpr.{TypedExpr, out-TypedExpr}
use Rattle.herm_typed.specs.declared.expressions.TypedUnary.{TypedUnary}
use Rattle.herm_syntax.specs.declared.expressions.UnaryOp.{UnaryOp}
use Rattle.herm_syntax.specs.declared.expressions.UnaryOp.TheVariants.{Neg, Not}
use Rattle.herm_typed.specs.declared.expressions.TypedPrimary.TheBlock as expressions
use Rattle.herm_typed.specs.declared.raises.Raises.{Raises}
use Rattle.herm_typed.specs.View.{typed_sum_op_view, typed_prod_op_view, signed_view, typed_expr_view, typed_conjs_view, typed_conj_view, typed_comps_view, typed_comp_view, typed_sum_view, typed_prods_view, typed_prod_view, typed_unaries_view, typed_primary_view, typed_unary_view}
use Rattle.herm_typed.specs.RaisedByExpressions.{raised_together, raised_each, raises_of, raises_behind, raised_signed, chained}

-- operands from the left and operands one by one can raise the same
or-behind : (a l e : Bool) → (a || (l || e)) ≡ (l || (a || e))
or-behind true true e = refl
or-behind true false e = refl
or-behind false true e = refl
or-behind false false e = refl

behind-raises : (o : Operator) (left e : Expression) → raises_of (operation o left e) ≡ raised_together (raises_of left) (raises_behind o e)
behind-raises o left e = ap₂ (λ (a b : Bool). let r : Raises = record { overflow = a; depletion = b } in r) (or-behind (is_arithmetic o) (can_overflow left) (can_overflow e)) (or-behind (is_joining o) (can_deplete left) (can_deplete e))

chain-raises : (left : Expression) (os : List (Operator × Expression)) → raises_of (chained left os) ≡ raised_each (raises_of left) (map (λ o. raises_behind o.0 o.1) os)
chain-raises left [] = refl
chain-raises left (o ∷ os) = chain-raises (operation o.0 left o.1) os ∙ ap (λ r. raised_each r (map (λ o. raises_behind o.0 o.1) os)) (behind-raises o.0 left o.1)

signed_is : (sign : Option UnaryOp) (e : Expression) → raised_signed sign (raises_of e) ≡ raises_of (signed_view sign e)
signed_is None e = refl
signed_is (Some Neg) e = refl
signed_is (Some Not) e = refl

pub signed_raises : (u : TypedUnary) (r : Raises) → r ≡ raises_of (typed_primary_view u.primary) → raised_signed u.op r ≡ raises_of (typed_unary_view u)
signed_raises u r e = ap (raised_signed u.op) e ∙ signed_is u.op (typed_primary_view u.primary)

-- the lists of the code
product_rows : {m : _} (rest : expressions.Row_of-TypedProd-rest-2 m) (left : Expression) → typed_unaries_view rest left ≡ chained left (map (λ o. (typed_prod_op_view o.0, typed_unary_view o.1)) (expressions.items-the_row-TypedProd-rest-2 m rest))
product_rows expressions.end_of-TypedProd-rest-2 left = refl
product_rows (expressions.more_of-TypedProd-rest-2 operator sign p rest) left = product_rows rest (operation (typed_prod_op_view operator) left (signed_view sign (typed_primary_view p)))

pub product_chain : (n : TypedProd) → typed_prod_view n ≡ chained (typed_unary_view (out-TypedProd n).first) (map (λ o. (typed_prod_op_view o.0, typed_unary_view o.1)) (out-TypedProd n).rest.items)
unfolding out-TypedProd denote.Hole.Carrier.out
product_chain (expressions.struct-TypedProd sign p shape rest) =
    product_rows rest (signed_view sign (typed_primary_view p))
    ∙ ap (λ items. chained (signed_view sign (typed_primary_view p)) (map (λ o. (typed_prod_op_view o.0, typed_unary_view o.1)) items)) (sym (expressions.items_shown-the_row-TypedProd-rest-2-2 shape rest))

sum_rows : {m : _} (rest : expressions.Row_of-TypedSum-rest-2 m) (left : Expression) → typed_prods_view rest left ≡ chained left (map (λ o. (typed_sum_op_view o.0, typed_prod_view o.1)) (expressions.items-the_row-TypedSum-rest-2 m rest))
sum_rows expressions.end_of-TypedSum-rest-2 left = refl
sum_rows (expressions.more_of-TypedSum-rest-2 operator p rest) left = sum_rows rest (operation (typed_sum_op_view operator) left (typed_prod_view p))

pub sum_chain : (n : TypedSum) → typed_sum_view n ≡ chained (typed_prod_view (out-TypedSum n).first) (map (λ o. (typed_sum_op_view o.0, typed_prod_view o.1)) (out-TypedSum n).rest.items)
unfolding out-TypedSum denote.Hole.Carrier.out
sum_chain (expressions.struct-TypedSum first shape rest) =
    sum_rows rest (typed_prod_view first)
    ∙ ap (λ items. chained (typed_prod_view first) (map (λ o. (typed_sum_op_view o.0, typed_prod_view o.1)) items)) (sym (expressions.items_shown-the_row-TypedSum-rest-2-3 shape rest))

both_rows : {m : _} (rest : expressions.Row_of-TypedComp m) (left : Expression) → typed_comps_view rest left ≡ chained left (map (λ c. (logical_and, typed_comp_view c)) (expressions.items-the_row-TypedComp m rest))
both_rows expressions.end_of-TypedComp left = refl
both_rows (expressions.more_of-TypedComp c rest) left = both_rows rest (operation logical_and left (typed_comp_view c))

pub conjunction_chain : (n : TypedConj) → typed_conj_view n ≡ chained (typed_comp_view (out-TypedConj n).first) (map (λ c. (logical_and, typed_comp_view c)) (out-TypedConj n).rest.items)
unfolding out-TypedConj denote.Hole.Carrier.out
conjunction_chain (expressions.struct-TypedConj first shape rest) =
    both_rows rest (typed_comp_view first)
    ∙ ap (λ items. chained (typed_comp_view first) (map (λ c. (logical_and, typed_comp_view c)) items)) (sym (expressions.items_shown-the_row-TypedComp-0 shape rest))

either_rows : {m : _} (rest : expressions.Row_of-TypedConj m) (left : Expression) → typed_conjs_view rest left ≡ chained left (map (λ c. (logical_or, typed_conj_view c)) (expressions.items-the_row-TypedConj m rest))
either_rows expressions.end_of-TypedConj left = refl
either_rows (expressions.more_of-TypedConj c rest) left = either_rows rest (operation logical_or left (typed_conj_view c))

pub expression_chain : (n : TypedExpr) → typed_expr_view n ≡ chained (typed_conj_view (out-TypedExpr n).first) (map (λ c. (logical_or, typed_conj_view c)) (out-TypedExpr n).rest.items)
unfolding out-TypedExpr denote.Hole.Carrier.out
expression_chain (expressions.struct-TypedExpr first shape rest) =
    either_rows rest (typed_conj_view first)
    ∙ ap (λ items. chained (typed_conj_view first) (map (λ c. (logical_or, typed_conj_view c)) items)) (sym (expressions.items_shown-the_row-TypedConj-1 shape rest))

-- a list of operands goes on one by one
pub each_step : {X : Type 0} (f : X → Raises) (a : Raises) (xs : List X) (i : ℕ) (d : X) → i < length xs → raised_each a (map f (drop i xs)) ≡ raised_each (raised_together a (f (get_or xs i d))) (map f (drop (i + 1) xs))
each_step f a xs i d h = rw (add-one, drop-cons xs i d) refl

pub each_end : {X : Type 0} (f : X → Raises) (a : Raises) (xs : List X) → raised_each a (map f (drop (length xs) xs)) ≡ a
each_end f a [] = refl
each_end f a (x ∷ xs) = each_end f a xs

map-twice : {X Y Z : Type 0} (g : Y → Z) (f : X → Y) (xs : List X) → map g (map f xs) ≡ map (λ x. g (f x)) xs
map-twice g f [] = refl
map-twice g f (x ∷ xs) = ap (g (f x) ∷◌) (map-twice g f xs)

chained-raises : {X : Type 0} (f : X → Operator × Expression) (left : Expression) (xs : List X) → raised_each (raises_of left) (map (λ x. raises_behind (f x).0 (f x).1) xs) ≡ raises_of (chained left (map f xs))
chained-raises f left xs = sym (chain-raises left (map f xs) ∙ ap (raised_each (raises_of left)) (map-twice (λ o. raises_behind o.0 o.1) f xs))

pub product_raises : (n : TypedProd) → raised_each (raises_of (typed_unary_view (out-TypedProd n).first)) (map (λ o. raises_behind (typed_prod_op_view o.0) (typed_unary_view o.1)) (out-TypedProd n).rest.items) ≡ raises_of (typed_prod_view n)
product_raises n = chained-raises (λ o. (typed_prod_op_view o.0, typed_unary_view o.1)) (typed_unary_view (out-TypedProd n).first) (out-TypedProd n).rest.items ∙ ap raises_of (sym (product_chain n))

pub sum_raises : (n : TypedSum) → raised_each (raises_of (typed_prod_view (out-TypedSum n).first)) (map (λ o. raises_behind (typed_sum_op_view o.0) (typed_prod_view o.1)) (out-TypedSum n).rest.items) ≡ raises_of (typed_sum_view n)
sum_raises n = chained-raises (λ o. (typed_sum_op_view o.0, typed_prod_view o.1)) (typed_prod_view (out-TypedSum n).first) (out-TypedSum n).rest.items ∙ ap raises_of (sym (sum_chain n))

pub conjunction_raises : (n : TypedConj) → raised_each (raises_of (typed_comp_view (out-TypedConj n).first)) (map (λ o. raises_behind logical_and (typed_comp_view o)) (out-TypedConj n).rest.items) ≡ raises_of (typed_conj_view n)
conjunction_raises n = chained-raises (λ o. (logical_and, typed_comp_view o)) (typed_comp_view (out-TypedConj n).first) (out-TypedConj n).rest.items ∙ ap raises_of (sym (conjunction_chain n))

pub expression_chain_raises : (n : TypedExpr) → raised_each (raises_of (typed_conj_view (out-TypedExpr n).first)) (map (λ o. raises_behind logical_or (typed_conj_view o)) (out-TypedExpr n).rest.items) ≡ raises_of (typed_expr_view n)
expression_chain_raises n = chained-raises (λ o. (logical_or, typed_conj_view o)) (typed_conj_view (out-TypedExpr n).first) (out-TypedExpr n).rest.items ∙ ap raises_of (sym (expression_chain n))
