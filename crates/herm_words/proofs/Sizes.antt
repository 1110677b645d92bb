-- How many statements stand within a part of the text: fewer within each of its parts.
use Rattle.std.proofs.Common.{◌≡◌, ℕ, zero, suc, ◌+◌, ◌<◌, ◌≤◌, List, [], ◌∷◌, length, get_or, Option, ap, ◌∙◌, Vec, Global, arith, length-append}
use Rattle.herm_base.specs.declared.numbers.ExcNo.{ExcNo}
use Rattle.herm_typed.specs.declared.expressions.TypedPath.{TypedPath}
use Rattle.herm_typed.specs.declared.expressions.TypedExpr.{TypedExpr}
use Rattle.herm_typed.specs.declared.statements.TypedStmt.{TypedStmt}
use Rattle.herm_typed.specs.declared.statements.TypedForm.{TypedForm, Case, Select, For, If, While, Try}
use Rattle.herm_typed.specs.Within.{statements_within, all_statements}
use Rattle.herm_words.specs.Rows.{all_in_arms, all_in_port_arms, all_otherwise}
use Rattle.herm_words.proofs.StatementsWithin.{for_within, while_within, if_within, case_within, select_within, try_within}

pub arm_size : {X : Type 0} (arms : List (X × Vec TypedStmt Global)) (i : ℕ) (d : X × Vec TypedStmt Global) → i < length arms → length (all_statements (get_or arms i d).1.items) ≤ length (all_in_arms arms)
arm_size [] i d h = absurd (omega (arith, h))
arm_size (a ∷ arms) zero d h = let e = length-append (all_statements a.1.items) (all_in_arms arms) in omega (arith, e)
arm_size (a ∷ arms) (suc i) d h = let e = length-append (all_statements a.1.items) (all_in_arms arms) in let k = arm_size arms i d (omega (arith, h)) in omega (arith, e, k)

pub port_size : (arms : List (TypedPath × TypedPath × Vec TypedStmt Global)) (i : ℕ) (d : TypedPath × TypedPath × Vec TypedStmt Global) → i < length arms → length (all_statements (get_or arms i d).2.items) ≤ length (all_in_port_arms arms)
port_size [] i d h = absurd (omega (arith, h))
port_size (a ∷ arms) zero d h = let e = length-append (all_statements a.2.items) (all_in_port_arms arms) in omega (arith, e)
port_size (a ∷ arms) (suc i) d h = let e = length-append (all_statements a.2.items) (all_in_port_arms arms) in let k = port_size arms i d (omega (arith, h)) in omega (arith, e, k)

pub item_size : (list : List TypedStmt) (i : ℕ) (d : TypedStmt) → i < length list → length (statements_within (get_or list i d).form) + 1 ≤ length (all_statements list)
item_size [] i d h = absurd (omega (arith, h))
item_size (s ∷ list) zero d h = let e = length-append (statements_within s.form) (all_statements list) in omega (arith, e)
item_size (s ∷ list) (suc i) d h = let e = length-append (statements_within s.form) (all_statements list) in let k = item_size list i d (omega (arith, h)) in omega (arith, e, k)

pub case_size : (v : TypedPath) (arms : Vec (ℕ × Vec TypedStmt Global) Global) → length (statements_within (Case v arms)) ≡ length (all_in_arms arms.items)
case_size v arms = ap length (case_within v arms)

pub select_size : (arms : Vec (TypedPath × TypedPath × Vec TypedStmt Global) Global) → length (statements_within (Select arms)) ≡ length (all_in_port_arms arms.items)
select_size arms = ap length (select_within arms)

pub for_size : (r t : TypedPath) (body : Vec TypedStmt Global) → length (statements_within (For r t body)) ≡ length (all_statements body.items)
for_size r t body = ap length (for_within r t body)

pub while_size : (e : TypedExpr) (body : Vec TypedStmt Global) → length (statements_within (While e body)) ≡ length (all_statements body.items)
while_size e body = ap length (while_within e body)

pub if_size : (e : TypedExpr) (body : Vec TypedStmt Global) (other : Option (Vec TypedStmt Global)) → length (statements_within (If e body other)) ≡ length (all_statements body.items) + length (all_otherwise other)
if_size e body other = ap length (if_within e body other) ∙ length-append (all_statements body.items) (all_otherwise other)

pub try_size : (body : Vec TypedStmt Global) (handled : Vec (ExcNo × Vec TypedStmt Global) Global) → length (statements_within (Try body handled)) ≡ length (all_statements body.items) + length (all_in_arms handled.items)
try_size body handled = ap length (try_within body handled) ∙ length-append (all_statements body.items) (all_in_arms handled.items)

pub within_size : (form g : TypedForm) (part : List TypedStmt) → form ≡ g → statements_within g ≡ part → length (statements_within form) ≡ length part
within_size form g part is within = ap (λ f. length (statements_within f)) is ∙ ap length within
