-- Statements with blocks are seen as the lists of the code say.
use Rattle.std.proofs.Common.{◌≡◌, ℕ, List, [], ◌∷◌, map, Option, Some, None, refl, sym, ap, ◌∙◌, Vec, Global}
use mathlib.Core.Former.{Count}
use Rattle.herm_base.specs.declared.numbers.ExcNo.{ExcNo}
use Rattle.herm_model.specs.Statements as model
use Rattle.herm_model.specs.Statements.{choosing, repeating, trying, Block, statement, Blocks, no_blocks, block, Handlers, handler}
use Rattle.herm_typed.specs.declared.expressions.TypedPath.{TypedPath}
use Rattle.herm_typed.specs.declared.expressions.TypedExpr.{TypedExpr}
use Rattle.herm_typed.specs.declared.statements.TypedStmt.{TypedStmt}
use Rattle.herm_typed.specs.declared.statements.TypedForm.{TypedForm, Case, Select, For, If, While, Try}
use Rattle.herm_typed.specs.declared.statements.TypedForm.TheBlock as forms
use Rattle.herm_typed.specs.View.{typed_path_view, typed_expr_view, components_view, typed_arms_view, typed_form_view, typed_block_view, case_blocks_view, select_blocks_view, typed_otherwise_view, typed_handlers_view, typed_stmts_view}
use Rattle.herm_typed.specs.Blocks.{case_blocks, typed_arm_view, select_blocks, else_block, handlers_list}

rows_seen : {m : _} (others : forms.Row_of-TypedStmt m) → typed_block_view others ≡ typed_stmts_view (forms.items-the_row-TypedStmt m others)
rows_seen forms.end_of-TypedStmt = refl
rows_seen (forms.more_of-TypedStmt number span form others) = ap (λ t. statement (typed_form_view form) t) (rows_seen others)

abbrev row_in : TypedForm → (m : Count) × forms.Row_of-TypedStmt m
row_in (forms.For' r t shape body) = (_, body)
row_in (forms.While' e shape body) = (_, body)
row_in (forms.If' e shape body other) = (_, body)
row_in (forms.Try' shape body others handled) = (_, body)
row_in form = (_, forms.end_of-TypedStmt)

pub for_view : (r t : TypedPath) (body : Vec TypedStmt Global) → typed_form_view (For r t body) ≡ repeating (model.For (typed_path_view r) (typed_path_view t)) (typed_stmts_view body.items)
for_view r t body = ap (λ b. repeating (model.For (typed_path_view r) (typed_path_view t)) b) (rows_seen (row_in (For r t body)).1 ∙ ap typed_stmts_view (forms.items_hidden-the_row-TypedStmt-0 body))

pub while_view : (e : TypedExpr) (body : Vec TypedStmt Global) → typed_form_view (While e body) ≡ repeating (model.While (typed_expr_view e)) (typed_stmts_view body.items)
while_view e body = ap (λ b. repeating (model.While (typed_expr_view e)) b) (rows_seen (row_in (While e body)).1 ∙ ap typed_stmts_view (forms.items_hidden-the_row-TypedStmt-0 body))

abbrev otherwise_in : TypedForm → forms.Held-TypedForm-If-2
otherwise_in (forms.If' e shape body other) = other
otherwise_in form = forms.None'

abbrev else_row : forms.Held-TypedForm-If-2 → (m : Count) × forms.Row_of-TypedStmt m
else_row (forms.Some' shape body) = (_, body)
else_row forms.None' = (_, forms.end_of-TypedStmt)

else_view : (e : TypedExpr) (body : Vec TypedStmt Global) (other : Option (Vec TypedStmt Global)) → typed_otherwise_view (otherwise_in (If e body other)) ≡ else_block other
else_view e body None = refl
else_view e body (Some x) = rows_seen (else_row (otherwise_in (If e body (Some x)))).1 ∙ ap typed_stmts_view (forms.items_hidden-the_row-TypedStmt-0 x)

pub if_view : (e : TypedExpr) (body : Vec TypedStmt Global) (other : Option (Vec TypedStmt Global)) → typed_form_view (If e body other) ≡ choosing (model.If (typed_expr_view e)) (block (typed_stmts_view body.items) (block (else_block other) no_blocks))
if_view e body other =
    ap (λ b. choosing (model.If (typed_expr_view e)) (block b (block (typed_otherwise_view (otherwise_in (If e body other))) no_blocks))) (rows_seen (row_in (If e body other)).1 ∙ ap typed_stmts_view (forms.items_hidden-the_row-TypedStmt-0 body))
    ∙ ap (λ o. choosing (model.If (typed_expr_view e)) (block (typed_stmts_view body.items) (block o no_blocks))) (else_view e body other)

-- ---- arms

block_same : (b c : Block) (r s : Blocks) → b ≡ c → r ≡ s → block b r ≡ block c s
block_same b c r s e f = ap (λ t. block t r) e ∙ ap (λ t. block c t) f

abbrev arms_in : TypedForm → (m : Count) × forms.Row_of-TypedForm-Case-1-3 m
arms_in (forms.Case' v shape arms) = (_, arms)
arms_in form = (_, forms.end_of-TypedForm-Case-1-3)

component_rows : {m : _} (arms : forms.Row_of-TypedForm-Case-1-3 m) → components_view arms ≡ map (λ a. a.0) (forms.items-the_row-TypedForm-Case-1-3 m arms)
component_rows forms.end_of-TypedForm-Case-1-3 = refl
component_rows (forms.more_of-TypedForm-Case-1-3 c shape body rest) = ap (c ∷◌) (component_rows rest)

case_rows : {m : _} (arms : forms.Row_of-TypedForm-Case-1-3 m) → case_blocks_view arms ≡ case_blocks (forms.items-the_row-TypedForm-Case-1-3 m arms)
case_rows forms.end_of-TypedForm-Case-1-3 = refl
case_rows (forms.more_of-TypedForm-Case-1-3 c shape body rest) = block_same _ _ _ _ (rows_seen body ∙ ap typed_stmts_view (sym (forms.items_shown-the_row-TypedStmt-0 shape body))) (case_rows rest)

pub case_view : (v : TypedPath) (arms : Vec (ℕ × Vec TypedStmt Global) Global) → typed_form_view (Case v arms) ≡ choosing (model.Case (typed_path_view v) (map (λ a. a.0) arms.items)) (case_blocks arms.items)
case_view v arms =
    ap (λ cs. choosing (model.Case (typed_path_view v) cs) (case_blocks_view (arms_in (Case v arms)).1)) (component_rows (arms_in (Case v arms)).1 ∙ ap (map (λ a. a.0)) (forms.items_hidden-the_row-TypedForm-Case-1-3-1 arms))
    ∙ ap (λ bs. choosing (model.Case (typed_path_view v) (map (λ a. a.0) arms.items)) bs) (case_rows (arms_in (Case v arms)).1 ∙ ap case_blocks (forms.items_hidden-the_row-TypedForm-Case-1-3-1 arms))

abbrev ports_in : TypedForm → (m : Count) × forms.Row_of-TypedForm-Select-0-4 m
ports_in (forms.Select' shape arms) = (_, arms)
ports_in form = (_, forms.end_of-TypedForm-Select-0-4)

arm_rows : {m : _} (arms : forms.Row_of-TypedForm-Select-0-4 m) → typed_arms_view arms ≡ map typed_arm_view (forms.items-the_row-TypedForm-Select-0-4 m arms)
arm_rows forms.end_of-TypedForm-Select-0-4 = refl
arm_rows (forms.more_of-TypedForm-Select-0-4 port target shape body rest) = ap (λ t. record { target = typed_path_view target; port = typed_path_view port } ∷ t) (arm_rows rest)

select_rows : {m : _} (arms : forms.Row_of-TypedForm-Select-0-4 m) → select_blocks_view arms ≡ select_blocks (forms.items-the_row-TypedForm-Select-0-4 m arms)
select_rows forms.end_of-TypedForm-Select-0-4 = refl
select_rows (forms.more_of-TypedForm-Select-0-4 port target shape body rest) = block_same _ _ _ _ (rows_seen body ∙ ap typed_stmts_view (sym (forms.items_shown-the_row-TypedStmt-0 shape body))) (select_rows rest)

pub select_view : (arms : Vec (TypedPath × TypedPath × Vec TypedStmt Global) Global) → typed_form_view (Select arms) ≡ choosing (model.Select (map typed_arm_view arms.items)) (select_blocks arms.items)
select_view arms =
    ap (λ cs. choosing (model.Select cs) (select_blocks_view (ports_in (Select arms)).1)) (arm_rows (ports_in (Select arms)).1 ∙ ap (map typed_arm_view) (forms.items_hidden-the_row-TypedForm-Select-0-4-2 arms))
    ∙ ap (λ bs. choosing (model.Select (map typed_arm_view arms.items)) bs) (select_rows (ports_in (Select arms)).1 ∙ ap select_blocks (forms.items_hidden-the_row-TypedForm-Select-0-4-2 arms))

-- ---- handlers

abbrev handlers_in : TypedForm → (m : Count) × forms.Row_of-TypedForm-Try-1-3 m
handlers_in (forms.Try' shape body others handled) = (_, handled)
handlers_in form = (_, forms.end_of-TypedForm-Try-1-3)

handler_same : (e : ℕ) (b c : Block) (r s : Handlers) → b ≡ c → r ≡ s → handler e b r ≡ handler e c s
handler_same e b c r s f g = ap (λ t. handler e t r) f ∙ ap (λ t. handler e c t) g

handler_rows : {m : _} (handled : forms.Row_of-TypedForm-Try-1-3 m) → typed_handlers_view handled ≡ handlers_list (forms.items-the_row-TypedForm-Try-1-3 m handled)
handler_rows forms.end_of-TypedForm-Try-1-3 = refl
handler_rows (forms.more_of-TypedForm-Try-1-3 e shape body rest) = handler_same e.0 _ _ _ _ (rows_seen body ∙ ap typed_stmts_view (sym (forms.items_shown-the_row-TypedStmt-0 shape body))) (handler_rows rest)

pub try_view : (body : Vec TypedStmt Global) (handled : Vec (ExcNo × Vec TypedStmt Global) Global) → typed_form_view (Try body handled) ≡ trying (typed_stmts_view body.items) (handlers_list handled.items)
try_view body handled =
    ap (λ b. trying b (typed_handlers_view (handlers_in (Try body handled)).1)) (rows_seen (row_in (Try body handled)).1 ∙ ap typed_stmts_view (forms.items_hidden-the_row-TypedStmt-0 body))
    ∙ ap (λ hs. trying (typed_stmts_view body.items) hs) (handler_rows (handlers_in (Try body handled)).1 ∙ ap handlers_list (forms.items_hidden-the_row-TypedForm-Try-1-3-3 handled))
