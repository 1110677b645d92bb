-- The types beside the paths of chains of operands and of atoms, from the lists that the code has.
use Rattle.std.proofs.Common.{◌≡◌, ℕ, List, [], ◌∷◌, ◌++◌, map, flat_map, Option, Some, None, refl, sym, ap, ap₂, ◌∙◌, Vec, Global, append_assoc}
use Rattle.std.proofs.lemmas.List.{map-append}
use Rattle.std.proofs.lemmas.List.Folds.{flat_map-map}
use denote.Hole.Carrier
use mathlib.Core.Former.{Count}
use Rattle.herm_model.specs.Expressions.{Expression, Operator, operation, logical_or, logical_and, paths_read, paths_among}
use Rattle.herm_model.specs.Statements.{Arm}
use Rattle.herm_syntax.specs.declared.expressions.ProdOp.{ProdOp}
use Rattle.herm_syntax.specs.declared.expressions.SumOp.{SumOp}
use Rattle.herm_syntax.specs.declared.expressions.UnaryOp.{UnaryOp}
use Rattle.herm_syntax.specs.declared.expressions.UnaryOp.TheVariants.{Neg, Not}
use Rattle.herm_naming.specs.Numbers.{Scope}
use Rattle.herm_typed.specs.declared.expressions.TypedAtom.{TypedAtom}
use Rattle.herm_typed.specs.declared.expressions.TypedAtom.TheVariants as atoms
use Rattle.herm_typed.specs.declared.expressions.TypedUnary.{TypedUnary}
use Rattle.herm_typed.specs.declared.expressions.TypedProd.{TypedProd, out-TypedProd, roll-TypedProd, out-roll-TypedProd}
use Rattle.herm_typed.specs.declared.expressions.TypedSum.{TypedSum, out-TypedSum, roll-TypedSum, out-roll-TypedSum}
use Rattle.herm_typed.specs.declared.expressions.TypedComp.{TypedComp}
use Rattle.herm_typed.specs.declared.expressions.TypedConj.{TypedConj, out-TypedConj, roll-TypedConj, out-roll-TypedConj}
use Rattle.herm_typed.specs.declared.expressions.TypedExpr.{TypedExpr, out-TypedExpr, roll-TypedExpr, out-roll-TypedExpr}
use Rattle.herm_typed.specs.declared.expressions.TypedPrimary.TheBlock as expressions
use Rattle.herm_typed.specs.declared.expressions.TypedPath.{TypedPath}
use Rattle.herm_typed.specs.declared.statements.TypedStmt.{TypedStmt}
use Rattle.herm_typed.specs.declared.statements.TypedForm.{TypedForm, Select}
use Rattle.herm_typed.specs.declared.statements.TypedForm.TheBlock as forms
use Rattle.herm_typed.specs.View.{signed_view, typed_path_view, typed_atom_view, typed_arms_view, typed_form_view, typed_expr_view, typed_conj_view, typed_comp_view, typed_sum_view, typed_prod_view, typed_unary_view, typed_sum_op_view, typed_prod_op_view}
use Rattle.herm_typed.specs.RaisedByExpressions.{chained}
use Rattle.herm_typed.proofs.Chains.{product_chain, sum_chain, conjunction_chain, expression_chain}
use Rattle.herm_typed.specs.Beside.{expr_types, conjs_types, conj_types, comps_types, comp_types, sum_types, prods_types, prod_types, unaries_types, unary_types, atom_types, arm_types, port_arm_types, types_beside}
use Rattle.herm_numbers.specs.Beside.{port_arm_seen, seen_at, types_read, types_among, types_seen}

append-nil : {X : Type 0} (xs : List X) → xs ++ [] ≡ xs
append-nil [] = refl
append-nil (x ∷ xs) = ap (x ∷◌) (append-nil xs)

-- lists that are the same element by element are the same joined
joined-same : {X : Type 0} (f g : X → List ℕ) (xs : List X) → map f xs ≡ map g xs → flat_map f xs ≡ flat_map g xs
joined-same f g xs e = sym (flat_map-map (λ ts. ts) f xs) ∙ (ap (flat_map (λ ts. ts)) e ∙ flat_map-map (λ ts. ts) g xs)

module _ (s : Scope) where
  pub signed_read : (sign : Option UnaryOp) (e : Expression) → types_read s (signed_view sign e) ≡ types_read s e
  signed_read None e = refl
  signed_read (Some Neg) e = refl
  signed_read (Some Not) e = refl

  chain-read : (left : Expression) (os : List (Operator × Expression)) → types_read s (chained left os) ≡ types_read s left ++ flat_map (λ o. types_read s o.1) os
  chain-read left [] = sym (append-nil (types_read s left))
  chain-read left (o ∷ os) =
      chain-read (operation o.0 left o.1) os
      ∙ (ap (λ ts. ts ++ flat_map (λ (o : Operator × Expression). types_read s o.1) os) (map-append (seen_at s) (paths_read left) (paths_read o.1))
      ∙ append_assoc (types_read s left) (types_read s o.1) (flat_map (λ (o : Operator × Expression). types_read s o.1) os))

  chain-beside : {X : Type 0} (f : X → List ℕ) (g : X → Operator × Expression) (first : List ℕ) (left : Expression) (xs : List X) → first ≡ types_read s left
      → map f xs ≡ map (λ x. types_read s (g x).1) xs → first ++ flat_map f xs ≡ types_read s (chained left (map g xs))
  chain-beside f g first left xs e h =
      ap₂ (λ a b. a ++ b) e (joined-same f (λ x. types_read s (g x).1) xs h ∙ sym (flat_map-map (λ (o : Operator × Expression). types_read s o.1) g xs))
      ∙ sym (chain-read left (map g xs))

  pub atoms_beside : (bs : List TypedAtom) → map atom_types bs ≡ map (types_among s) bs → flat_map atom_types bs ≡ map (seen_at s) (paths_among (map typed_atom_view bs))
  atoms_beside bs e = joined-same atom_types (types_among s) bs e ∙ by bs
    where
      by : (bs : List TypedAtom) → flat_map (types_among s) bs ≡ map (seen_at s) (paths_among (map typed_atom_view bs))
      by [] = refl
      by (atoms.Literal l ∷ bs) = by bs
      by (atoms.Path p ∷ bs) = ap (seen_at s (typed_path_view p) ∷◌) (by bs)

-- ---- the lists of the code

product-rows : {m : _} (rest : expressions.Row_of-TypedProd-rest-2 m) → unaries_types rest ≡ flat_map (λ o. unary_types o.1) (expressions.items-the_row-TypedProd-rest-2 m rest)
product-rows expressions.end_of-TypedProd-rest-2 = refl
product-rows (expressions.more_of-TypedProd-rest-2 operator sign p rest) = ap (λ ts. unary_types (record { op = sign; primary = p }) ++ ts) (product-rows rest)

product-types : (n : TypedProd) → prod_types n ≡ unary_types (out-TypedProd n).first ++ flat_map (λ o. unary_types o.1) (out-TypedProd n).rest.items
unfolding out-TypedProd denote.Hole.Carrier.out
product-types (expressions.struct-TypedProd sign p shape rest) =
    ap (λ ts. unary_types (record { op = sign; primary = p }) ++ ts) (product-rows rest ∙ ap (flat_map (λ o. unary_types o.1)) (sym (expressions.items_shown-the_row-TypedProd-rest-2-2 shape rest)))

pub product_beside : (s : Scope) (first : TypedUnary) (rest : Vec (ProdOp × TypedUnary) Global) → unary_types first ≡ types_read s (typed_unary_view first)
    → map (λ o. unary_types o.1) rest.items ≡ map (λ o. types_read s (typed_unary_view o.1)) rest.items
    → prod_types (roll-TypedProd (record { first = first; rest = rest })) ≡ types_read s (typed_prod_view (roll-TypedProd (record { first = first; rest = rest })))
product_beside s first rest e h =
    product-types (roll-TypedProd (record { first = first; rest = rest }))
    ∙ (ap (λ r. unary_types r.first ++ flat_map (λ o. unary_types o.1) r.rest.items) (out-roll-TypedProd (record { first = first; rest = rest }))
    ∙ (chain-beside s (λ o. unary_types o.1) (λ o. (typed_prod_op_view o.0, typed_unary_view o.1)) (unary_types first) (typed_unary_view first) rest.items e h
    ∙ sym (ap (types_read s) (product_chain (roll-TypedProd (record { first = first; rest = rest }))
    ∙ ap (λ r. chained (typed_unary_view r.first) (map (λ o. (typed_prod_op_view o.0, typed_unary_view o.1)) r.rest.items)) (out-roll-TypedProd (record { first = first; rest = rest }))))))

sum-rows : {m : _} (rest : expressions.Row_of-TypedSum-rest-2 m) → prods_types rest ≡ flat_map (λ o. prod_types o.1) (expressions.items-the_row-TypedSum-rest-2 m rest)
sum-rows expressions.end_of-TypedSum-rest-2 = refl
sum-rows (expressions.more_of-TypedSum-rest-2 operator p rest) = ap (λ ts. prod_types p ++ ts) (sum-rows rest)

sum-types : (n : TypedSum) → sum_types n ≡ prod_types (out-TypedSum n).first ++ flat_map (λ o. prod_types o.1) (out-TypedSum n).rest.items
unfolding out-TypedSum denote.Hole.Carrier.out
sum-types (expressions.struct-TypedSum first shape rest) =
    ap (λ ts. prod_types first ++ ts) (sum-rows rest ∙ ap (flat_map (λ o. prod_types o.1)) (sym (expressions.items_shown-the_row-TypedSum-rest-2-3 shape rest)))

pub sum_beside : (s : Scope) (first : TypedProd) (rest : Vec (SumOp × TypedProd) Global) → prod_types first ≡ types_read s (typed_prod_view first)
    → map (λ o. prod_types o.1) rest.items ≡ map (λ o. types_read s (typed_prod_view o.1)) rest.items
    → sum_types (roll-TypedSum (record { first = first; rest = rest })) ≡ types_read s (typed_sum_view (roll-TypedSum (record { first = first; rest = rest })))
sum_beside s first rest e h =
    sum-types (roll-TypedSum (record { first = first; rest = rest }))
    ∙ (ap (λ r. prod_types r.first ++ flat_map (λ o. prod_types o.1) r.rest.items) (out-roll-TypedSum (record { first = first; rest = rest }))
    ∙ (chain-beside s (λ o. prod_types o.1) (λ o. (typed_sum_op_view o.0, typed_prod_view o.1)) (prod_types first) (typed_prod_view first) rest.items e h
    ∙ sym (ap (types_read s) (sum_chain (roll-TypedSum (record { first = first; rest = rest }))
    ∙ ap (λ r. chained (typed_prod_view r.first) (map (λ o. (typed_sum_op_view o.0, typed_prod_view o.1)) r.rest.items)) (out-roll-TypedSum (record { first = first; rest = rest }))))))

and-rows : {m : _} (rest : expressions.Row_of-TypedComp m) → comps_types rest ≡ flat_map comp_types (expressions.items-the_row-TypedComp m rest)
and-rows expressions.end_of-TypedComp = refl
and-rows (expressions.more_of-TypedComp c rest) = ap (λ ts. comp_types c ++ ts) (and-rows rest)

conjunction-types : (n : TypedConj) → conj_types n ≡ comp_types (out-TypedConj n).first ++ flat_map comp_types (out-TypedConj n).rest.items
unfolding out-TypedConj denote.Hole.Carrier.out
conjunction-types (expressions.struct-TypedConj first shape rest) =
    ap (λ ts. comp_types first ++ ts) (and-rows rest ∙ ap (flat_map comp_types) (sym (expressions.items_shown-the_row-TypedComp-0 shape rest)))

pub conjunction_beside : (s : Scope) (first : TypedComp) (rest : Vec TypedComp Global) → comp_types first ≡ types_read s (typed_comp_view first)
    → map (λ o. comp_types o) rest.items ≡ map (λ o. types_read s (typed_comp_view o)) rest.items
    → conj_types (roll-TypedConj (record { first = first; rest = rest })) ≡ types_read s (typed_conj_view (roll-TypedConj (record { first = first; rest = rest })))
conjunction_beside s first rest e h =
    conjunction-types (roll-TypedConj (record { first = first; rest = rest }))
    ∙ (ap (λ r. comp_types r.first ++ flat_map comp_types r.rest.items) (out-roll-TypedConj (record { first = first; rest = rest }))
    ∙ (chain-beside s comp_types (λ o. (logical_and, typed_comp_view o)) (comp_types first) (typed_comp_view first) rest.items e h
    ∙ sym (ap (types_read s) (conjunction_chain (roll-TypedConj (record { first = first; rest = rest }))
    ∙ ap (λ r. chained (typed_comp_view r.first) (map (λ o. (logical_and, typed_comp_view o)) r.rest.items)) (out-roll-TypedConj (record { first = first; rest = rest }))))))

or-rows : {m : _} (rest : expressions.Row_of-TypedConj m) → conjs_types rest ≡ flat_map conj_types (expressions.items-the_row-TypedConj m rest)
or-rows expressions.end_of-TypedConj = refl
or-rows (expressions.more_of-TypedConj c rest) = ap (λ ts. conj_types c ++ ts) (or-rows rest)

expression-types : (n : TypedExpr) → expr_types n ≡ conj_types (out-TypedExpr n).first ++ flat_map conj_types (out-TypedExpr n).rest.items
unfolding out-TypedExpr denote.Hole.Carrier.out
expression-types (expressions.struct-TypedExpr first shape rest) =
    ap (λ ts. conj_types first ++ ts) (or-rows rest ∙ ap (flat_map conj_types) (sym (expressions.items_shown-the_row-TypedConj-1 shape rest)))

pub expression_beside : (s : Scope) (first : TypedConj) (rest : Vec TypedConj Global) → conj_types first ≡ types_read s (typed_conj_view first)
    → map (λ o. conj_types o) rest.items ≡ map (λ o. types_read s (typed_conj_view o)) rest.items
    → expr_types (roll-TypedExpr (record { first = first; rest = rest })) ≡ types_read s (typed_expr_view (roll-TypedExpr (record { first = first; rest = rest })))
expression_beside s first rest e h =
    expression-types (roll-TypedExpr (record { first = first; rest = rest }))
    ∙ (ap (λ r. conj_types r.first ++ flat_map conj_types r.rest.items) (out-roll-TypedExpr (record { first = first; rest = rest }))
    ∙ (chain-beside s conj_types (λ o. (logical_or, typed_conj_view o)) (conj_types first) (typed_conj_view first) rest.items e h
    ∙ sym (ap (types_read s) (expression_chain (roll-TypedExpr (record { first = first; rest = rest }))
    ∙ ap (λ r. chained (typed_conj_view r.first) (map (λ o. (logical_or, typed_conj_view o)) r.rest.items)) (out-roll-TypedExpr (record { first = first; rest = rest }))))))

-- ---- the arms of a `select`

abbrev ports_in : TypedForm → (m : Count) × forms.Row_of-TypedForm-Select-0-4 m
ports_in (forms.Select' shape arms) = (_, arms)
ports_in form = (_, forms.end_of-TypedForm-Select-0-4)

arm-types : {m : _} (arms : forms.Row_of-TypedForm-Select-0-4 m) → arm_types arms ≡ flat_map port_arm_types (forms.items-the_row-TypedForm-Select-0-4 m arms)
arm-types forms.end_of-TypedForm-Select-0-4 = refl
arm-types (forms.more_of-TypedForm-Select-0-4 port target shape body rest) = ap (λ ts. port.of.0 ∷ target.of.0 ∷ ts) (arm-types rest)

arm-seen : (s : Scope) {m : _} (arms : forms.Row_of-TypedForm-Select-0-4 m) → map (seen_at s) (flat_map (λ (a : Arm). a.port ∷ a.target ∷ []) (typed_arms_view arms)) ≡ flat_map (port_arm_seen s) (forms.items-the_row-TypedForm-Select-0-4 m arms)
arm-seen s forms.end_of-TypedForm-Select-0-4 = refl
arm-seen s (forms.more_of-TypedForm-Select-0-4 port target shape body rest) = ap (λ ts. seen_at s (typed_path_view port) ∷ seen_at s (typed_path_view target) ∷ ts) (arm-seen s rest)

pub select_beside : (s : Scope) (arms : Vec (TypedPath × TypedPath × Vec TypedStmt Global) Global) → map port_arm_types arms.items ≡ map (port_arm_seen s) arms.items → types_beside (Select arms) ≡ types_seen s (typed_form_view (Select arms))
select_beside s arms h =
    arm-types (ports_in (Select arms)).1 ∙ (ap (flat_map port_arm_types) (forms.items_hidden-the_row-TypedForm-Select-0-4-2 arms)
    ∙ (joined-same port_arm_types (port_arm_seen s) arms.items h
    ∙ sym (arm-seen s (ports_in (Select arms)).1 ∙ ap (flat_map (port_arm_seen s)) (forms.items_hidden-the_row-TypedForm-Select-0-4-2 arms))))
