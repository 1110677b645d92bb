-- How many statements stand within a part of the text: fewer within each of its parts.
use Rattle.std.proofs.Common.{◌≡◌, ℕ, zero, suc, ◌+◌, ◌<◌, ◌≤◌, List, [], ◌∷◌, ◌++◌, length, get_or, Option, refl, sym, ap, ◌∙◌, Vec, Global, arith, length-append}
use Rattle.herm_base.specs.declared.word.Name.{Name}
use Rattle.herm_base.specs.declared.word.Span.{Span}
use Rattle.herm_syntax.specs.declared.expressions.Expr.{Expr}
use Rattle.herm_syntax.specs.declared.expressions.PathForm.{PathForm}
use Rattle.herm_syntax.specs.declared.statements.Stmt.{Stmt}
use Rattle.herm_syntax.specs.declared.statements.StmtForm.{StmtForm, Case, For, If, While, Try, Select}
use Rattle.herm_numbers.specs.Faults.{spans_within, body_spans}
use Rattle.herm_numbers.specs.Statements.{all_spans, all_port_spans, else_spans}
use Rattle.herm_numbers.proofs.Written.{for_spans, while_spans, if_spans, case_spans, select_spans, try_spans}

pub arm_size : {X : Type 0} (arms : List (X × Vec Stmt Global)) (i : ℕ) (d : X × Vec Stmt Global) → i < length arms → length (body_spans (get_or arms i d).1.items) ≤ length (all_spans arms)
arm_size [] i d h = absurd (omega (arith, h))
arm_size (a ∷ arms) zero d h = let e = length-append (body_spans a.1.items) (all_spans arms) in omega (arith, e)
arm_size (a ∷ arms) (suc i) d h = let e = length-append (body_spans a.1.items) (all_spans arms) in let k = arm_size arms i d (omega (arith, h)) in omega (arith, e, k)

pub port_size : (arms : List (PathForm × PathForm × Vec Stmt Global)) (i : ℕ) (d : PathForm × PathForm × Vec Stmt Global) → i < length arms → length (body_spans (get_or arms i d).2.items) ≤ length (all_port_spans arms)
port_size [] i d h = absurd (omega (arith, h))
port_size (a ∷ arms) zero d h = let e = length-append (body_spans a.2.items) (all_port_spans arms) in omega (arith, e)
port_size (a ∷ arms) (suc i) d h = let e = length-append (body_spans a.2.items) (all_port_spans arms) in let k = port_size arms i d (omega (arith, h)) in omega (arith, e, k)

joined-size : (s : Stmt) (rest : List Stmt) → length (body_spans (s ∷ rest)) ≡ length (body_spans (s ∷ [])) + length (body_spans rest)
joined-size s rest =
    let e = length-append (spans_within s.form) (body_spans rest) in
    let f = length-append (spans_within s.form) (body_spans []) in
    omega (arith, e, f)

pub item_size : (list : List Stmt) (i : ℕ) (d : Stmt) → i < length list → length (body_spans (get_or list i d ∷ [])) ≤ length (body_spans list)
item_size [] i d h = absurd (omega (arith, h))
item_size (s ∷ list) zero d h = let e = joined-size s list in omega (arith, e)
item_size (s ∷ list) (suc i) d h = let e = joined-size s list in let k = item_size list i d (omega (arith, h)) in omega (arith, e, k)

pub one_size : (s : Stmt) → length (body_spans (s ∷ [])) ≡ length (spans_within s.form) + 1
one_size s = let e = length-append (spans_within s.form) (body_spans []) in omega (arith, e)

pub two_sizes : (body : List Stmt) (other : Option (Vec Stmt Global)) → length (body_spans body ++ else_spans other) ≡ length (body_spans body) + length (else_spans other)
two_sizes body other = length-append (body_spans body) (else_spans other)

pub try_sizes : (body : List Stmt) (handled : List (Name × Vec Stmt Global)) → length (body_spans body ++ all_spans handled) ≡ length (body_spans body) + length (all_spans handled)
try_sizes body handled = length-append (body_spans body) (all_spans handled)

pub case_size : (v : PathForm) (arms : Vec (Name × Vec Stmt Global) Global) → length (spans_within (Case v arms)) ≡ length (all_spans arms.items)
case_size v arms = ap length (case_spans v arms)

pub select_size : (arms : Vec (PathForm × PathForm × Vec Stmt Global) Global) → length (spans_within (Select arms)) ≡ length (all_port_spans arms.items)
select_size arms = ap length (select_spans arms)

pub for_size : (r t : PathForm) (body : Vec Stmt Global) → length (spans_within (For r t body)) ≡ length (body_spans body.items)
for_size r t body = ap length (for_spans r t body)

pub while_size : (e : Expr) (body : Vec Stmt Global) → length (spans_within (While e body)) ≡ length (body_spans body.items)
while_size e body = ap length (while_spans e body)

pub if_size : (e : Expr) (body : Vec Stmt Global) (other : Option (Vec Stmt Global)) → length (spans_within (If e body other)) ≡ length (body_spans body.items ++ else_spans other)
if_size e body other = ap length (if_spans e body other)

pub try_size : (body : Vec Stmt Global) (handled : Vec (Name × Vec Stmt Global) Global) → length (spans_within (Try body handled)) ≡ length (body_spans body.items ++ all_spans handled.items)
try_size body handled = ap length (try_spans body handled)
