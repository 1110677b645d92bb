-- The statements within a written statement with blocks, from the lists that the code has.
use Rattle.std.proofs.Common.{◌≡◌, List, [], ◌∷◌, ◌++◌, flat_map, Option, Some, None, refl, sym, ap, ap₂, ◌∙◌, Vec, Global}
use mathlib.Core.Former.{Count}
use Rattle.herm_base.specs.declared.word.Name.{Name}
use Rattle.herm_syntax.specs.declared.expressions.Expr.{Expr}
use Rattle.herm_syntax.specs.declared.expressions.PathForm.{PathForm}
use Rattle.herm_syntax.specs.declared.statements.Stmt.{Stmt}
use Rattle.herm_syntax.specs.declared.statements.StmtForm.{StmtForm, Case, For, If, While, Try, Select}
use Rattle.herm_syntax.specs.declared.statements.StmtForm.TheBlock as forms
use Rattle.herm_numbers.specs.Within.{written_within, written_in, written_in_arms, written_in_port_arms, written_otherwise, all_written, items_of}

rows_within : {m : _} (others : forms.Row_of-Stmt m) → written_in others ≡ all_written (forms.items-the_row-Stmt m others)
rows_within forms.end_of-Stmt = refl
rows_within (forms.more_of-Stmt number span form others) = ap (λ (xs : List Stmt). record { no = number; span = span; form = form } ∷ written_within form ++ xs) (rows_within others)

abbrev row_in : StmtForm → (m : Count) × forms.Row_of-Stmt m
row_in (forms.For' r t shape body) = (_, body)
row_in (forms.While' e shape body) = (_, body)
row_in (forms.If' e shape body other) = (_, body)
row_in (forms.Try' shape body others handled) = (_, body)
row_in form = (_, forms.end_of-Stmt)

pub for_written : (r t : PathForm) (body : Vec Stmt Global) → written_within (For r t body) ≡ all_written body.items
for_written r t body = rows_within (row_in (For r t body)).1 ∙ ap all_written (forms.items_hidden-the_row-Stmt-0 body)

pub while_written : (e : Expr) (body : Vec Stmt Global) → written_within (While e body) ≡ all_written body.items
while_written e body = rows_within (row_in (While e body)).1 ∙ ap all_written (forms.items_hidden-the_row-Stmt-0 body)

abbrev otherwise_in : StmtForm → forms.Held-StmtForm-If-2
otherwise_in (forms.If' e shape body other) = other
otherwise_in form = forms.None'

abbrev else_row : forms.Held-StmtForm-If-2 → (m : Count) × forms.Row_of-Stmt m
else_row (forms.Some' shape body) = (_, body)
else_row forms.None' = (_, forms.end_of-Stmt)

else_written : (e : Expr) (body : Vec Stmt Global) (other : Option (Vec Stmt Global)) → written_otherwise (otherwise_in (If e body other)) ≡ all_written (items_of other)
else_written e body None = refl
else_written e body (Some x) = rows_within (else_row (otherwise_in (If e body (Some x)))).1 ∙ ap all_written (forms.items_hidden-the_row-Stmt-0 x)

pub if_written : (e : Expr) (body : Vec Stmt Global) (other : Option (Vec Stmt Global)) → written_within (If e body other) ≡ all_written body.items ++ all_written (items_of other)
if_written e body other = ap₂ (λ xs ys. xs ++ ys) (rows_within (row_in (If e body other)).1 ∙ ap all_written (forms.items_hidden-the_row-Stmt-0 body)) (else_written e body other)

-- ---- arms

abbrev arms_in : StmtForm → (m : Count) × forms.Row_of-StmtForm-Case-1-3 m
arms_in (forms.Case' v shape arms) = (_, arms)
arms_in (forms.Try' shape body others handled) = (_, handled)
arms_in form = (_, forms.end_of-StmtForm-Case-1-3)

arms_within : {m : _} (arms : forms.Row_of-StmtForm-Case-1-3 m) → written_in_arms arms ≡ flat_map (λ a. all_written a.1.items) (forms.items-the_row-StmtForm-Case-1-3 m arms)
arms_within forms.end_of-StmtForm-Case-1-3 = refl
arms_within (forms.more_of-StmtForm-Case-1-3 name shape body others) = ap₂ (λ xs ys. xs ++ ys) (rows_within body ∙ ap all_written (sym (forms.items_shown-the_row-Stmt-0 shape body))) (arms_within others)

pub case_written : (v : PathForm) (arms : Vec (Name × Vec Stmt Global) Global) → written_within (Case v arms) ≡ flat_map (λ a. all_written a.1.items) arms.items
case_written v arms = arms_within (arms_in (Case v arms)).1 ∙ ap (flat_map (λ a. all_written a.1.items)) (forms.items_hidden-the_row-StmtForm-Case-1-3-1 arms)

pub try_written : (body : Vec Stmt Global) (handled : Vec (Name × Vec Stmt Global) Global) → written_within (Try body handled) ≡ all_written body.items ++ flat_map (λ a. all_written a.1.items) handled.items
try_written body handled =
    ap₂ (λ xs ys. xs ++ ys) (rows_within (row_in (Try body handled)).1 ∙ ap all_written (forms.items_hidden-the_row-Stmt-0 body))
    (arms_within (arms_in (Try body handled)).1 ∙ ap (flat_map (λ a. all_written a.1.items)) (forms.items_hidden-the_row-StmtForm-Case-1-3-1 handled))

abbrev ports_in : StmtForm → (m : Count) × forms.Row_of-StmtForm-Select-0-4 m
ports_in (forms.Select' shape arms) = (_, arms)
ports_in form = (_, forms.end_of-StmtForm-Select-0-4)

ports_within : {m : _} (arms : forms.Row_of-StmtForm-Select-0-4 m) → written_in_port_arms arms ≡ flat_map (λ a. all_written a.2.items) (forms.items-the_row-StmtForm-Select-0-4 m arms)
ports_within forms.end_of-StmtForm-Select-0-4 = refl
ports_within (forms.more_of-StmtForm-Select-0-4 port target shape body others) = ap₂ (λ xs ys. xs ++ ys) (rows_within body ∙ ap all_written (sym (forms.items_shown-the_row-Stmt-0 shape body))) (ports_within others)

pub select_written : (arms : Vec (PathForm × PathForm × Vec Stmt Global) Global) → written_within (Select arms) ≡ flat_map (λ a. all_written a.2.items) arms.items
select_written arms = ports_within (ports_in (Select arms)).1 ∙ ap (flat_map (λ a. all_written a.2.items)) (forms.items_hidden-the_row-StmtForm-Select-0-4-2 arms)
