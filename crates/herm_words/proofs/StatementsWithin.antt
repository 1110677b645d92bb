-- The statements within a typed statement with blocks, from the lists that the code has.
use Rattle.std.proofs.Common.{◌≡◌, ℕ, List, ◌∷◌, ◌++◌, Option, Some, None, refl, sym, ap, ap₂, ◌∙◌, Vec, Global}
use mathlib.Core.Former.{Count}
use Rattle.herm_base.specs.declared.numbers.ExcNo.{ExcNo}
use Rattle.herm_typed.specs.declared.expressions.TypedPath.{TypedPath}
use Rattle.herm_typed.specs.declared.expressions.TypedExpr.{TypedExpr}
use Rattle.herm_typed.specs.declared.statements.TypedStmt.{TypedStmt}
use Rattle.herm_typed.specs.declared.statements.TypedForm.{TypedForm, Case, Select, For, If, While, Try}
use Rattle.herm_typed.specs.declared.statements.TypedForm.TheBlock as forms
use Rattle.herm_typed.specs.Within.{statements_within, statements_in, statements_in_arms, statements_in_port_arms, statements_otherwise, statements_in_handlers, all_statements}
use Rattle.herm_words.specs.Rows.{all_in_arms, all_in_port_arms, all_otherwise}

rows_within : {m : _} (others : forms.Row_of-TypedStmt m) → statements_in others ≡ all_statements (forms.items-the_row-TypedStmt m others)
rows_within forms.end_of-TypedStmt = refl
rows_within (forms.more_of-TypedStmt number span form others) = ap (λ (ts : List TypedStmt). record { no = number; span = span; form = form } ∷ statements_within form ++ ts) (rows_within others)

abbrev row_in : TypedForm → (m : Count) × forms.Row_of-TypedStmt m
row_in (forms.For' r t shape body) = (_, body)
row_in (forms.While' e shape body) = (_, body)
row_in (forms.If' e shape body other) = (_, body)
row_in (forms.Try' shape body others handled) = (_, body)
row_in form = (_, forms.end_of-TypedStmt)

pub for_within : (r t : TypedPath) (body : Vec TypedStmt Global) → statements_within (For r t body) ≡ all_statements body.items
for_within r t body = rows_within (row_in (For r t body)).1 ∙ ap all_statements (forms.items_hidden-the_row-TypedStmt-0 body)

pub while_within : (e : TypedExpr) (body : Vec TypedStmt Global) → statements_within (While e body) ≡ all_statements body.items
while_within e body = rows_within (row_in (While e body)).1 ∙ ap all_statements (forms.items_hidden-the_row-TypedStmt-0 body)

abbrev otherwise_in : TypedForm → forms.Held-TypedForm-If-2
otherwise_in (forms.If' e shape body other) = other
otherwise_in form = forms.None'

abbrev else_row : forms.Held-TypedForm-If-2 → (m : Count) × forms.Row_of-TypedStmt m
else_row (forms.Some' shape body) = (_, body)
else_row forms.None' = (_, forms.end_of-TypedStmt)

else_within : (e : TypedExpr) (body : Vec TypedStmt Global) (other : Option (Vec TypedStmt Global)) → statements_otherwise (otherwise_in (If e body other)) ≡ all_otherwise other
else_within e body None = refl
else_within e body (Some x) = rows_within (else_row (otherwise_in (If e body (Some x)))).1 ∙ ap all_statements (forms.items_hidden-the_row-TypedStmt-0 x)

pub if_within : (e : TypedExpr) (body : Vec TypedStmt Global) (other : Option (Vec TypedStmt Global)) → statements_within (If e body other) ≡ all_statements body.items ++ all_otherwise other
if_within e body other = ap₂ (λ xs ys. xs ++ ys) (rows_within (row_in (If e body other)).1 ∙ ap all_statements (forms.items_hidden-the_row-TypedStmt-0 body)) (else_within e body other)

-- ---- arms

abbrev arms_in : TypedForm → (m : Count) × forms.Row_of-TypedForm-Case-1-3 m
arms_in (forms.Case' v shape arms) = (_, arms)
arms_in form = (_, forms.end_of-TypedForm-Case-1-3)

arms_within : {m : _} (arms : forms.Row_of-TypedForm-Case-1-3 m) → statements_in_arms arms ≡ all_in_arms (forms.items-the_row-TypedForm-Case-1-3 m arms)
arms_within forms.end_of-TypedForm-Case-1-3 = refl
arms_within (forms.more_of-TypedForm-Case-1-3 component shape body rest) = ap₂ (λ xs ys. xs ++ ys) (rows_within body ∙ ap all_statements (sym (forms.items_shown-the_row-TypedStmt-0 shape body))) (arms_within rest)

pub case_within : (v : TypedPath) (arms : Vec (ℕ × Vec TypedStmt Global) Global) → statements_within (Case v arms) ≡ all_in_arms arms.items
case_within v arms = arms_within (arms_in (Case v arms)).1 ∙ ap all_in_arms (forms.items_hidden-the_row-TypedForm-Case-1-3-1 arms)

abbrev ports_in : TypedForm → (m : Count) × forms.Row_of-TypedForm-Select-0-4 m
ports_in (forms.Select' shape arms) = (_, arms)
ports_in form = (_, forms.end_of-TypedForm-Select-0-4)

ports_within : {m : _} (arms : forms.Row_of-TypedForm-Select-0-4 m) → statements_in_port_arms arms ≡ all_in_port_arms (forms.items-the_row-TypedForm-Select-0-4 m arms)
ports_within forms.end_of-TypedForm-Select-0-4 = refl
ports_within (forms.more_of-TypedForm-Select-0-4 port target shape body rest) = ap₂ (λ xs ys. xs ++ ys) (rows_within body ∙ ap all_statements (sym (forms.items_shown-the_row-TypedStmt-0 shape body))) (ports_within rest)

pub select_within : (arms : Vec (TypedPath × TypedPath × Vec TypedStmt Global) Global) → statements_within (Select arms) ≡ all_in_port_arms arms.items
select_within arms = ports_within (ports_in (Select arms)).1 ∙ ap all_in_port_arms (forms.items_hidden-the_row-TypedForm-Select-0-4-2 arms)

abbrev handlers_in : TypedForm → (m : Count) × forms.Row_of-TypedForm-Try-1-3 m
handlers_in (forms.Try' shape body others handled) = (_, handled)
handlers_in form = (_, forms.end_of-TypedForm-Try-1-3)

handlers_within : {m : _} (arms : forms.Row_of-TypedForm-Try-1-3 m) → statements_in_handlers arms ≡ all_in_arms (forms.items-the_row-TypedForm-Try-1-3 m arms)
handlers_within forms.end_of-TypedForm-Try-1-3 = refl
handlers_within (forms.more_of-TypedForm-Try-1-3 exception shape body rest) = ap₂ (λ xs ys. xs ++ ys) (rows_within body ∙ ap all_statements (sym (forms.items_shown-the_row-TypedStmt-0 shape body))) (handlers_within rest)

pub try_within : (body : Vec TypedStmt Global) (handled : Vec (ExcNo × Vec TypedStmt Global) Global) → statements_within (Try body handled) ≡ all_statements body.items ++ all_in_arms handled.items
try_within body handled =
    ap₂ (λ xs ys. xs ++ ys) (rows_within (row_in (Try body handled)).1 ∙ ap all_statements (forms.items_hidden-the_row-TypedStmt-0 body))
    (handlers_within (handlers_in (Try body handled)).1 ∙ ap all_in_arms (forms.items_hidden-the_row-TypedForm-Try-1-3-3 handled))
