-- Statements with blocks as they are written: the lists of the code are the trees of the grammar.
use Rattle.std.proofs.Common.{◌≡◌, ℕ, List, [], ◌∷◌, ◌++◌, map, Bool, true, Option, Some, None, refl, sym, ap, ap₂, ◌∙◌, Vec, Global, append_assoc}
use Rattle.std.proofs.lemmas.List.{map-append}
use mathlib.Core.Former.{Count}
use Rattle.herm_base.specs.declared.word.Name.{Name}
use Rattle.herm_base.specs.declared.word.Span.{Span}
use Rattle.herm_syntax.specs.declared.expressions.Expr.{Expr}
use Rattle.herm_syntax.specs.declared.expressions.PathForm.{PathForm}
use Rattle.herm_syntax.specs.declared.statements.Stmt.{Stmt}
use Rattle.herm_syntax.specs.declared.statements.StmtForm.{StmtForm, Case, For, If, While, Try, Select}
use Rattle.herm_syntax.specs.declared.statements.StmtForm.TheBlock as forms
use Rattle.herm_syntax.specs.Trees.{Letters, Path, Statement, Statements, Further, Arms, Arm, PortArms, PortArm, Otherwise, Else, Case as CaseTree, For as ForTree, If as IfTree, While as WhileTree, Try as TryTree, Select as SelectTree}
use Rattle.herm_syntax.specs.ReadStatements as reading
use Rattle.herm_syntax.specs.View.{name_view, path_form_view, expr_view, stmt_form_view, stmt_rows_view, arms_view, port_arms_view, otherwise_view, stmts_view}
use Rattle.herm_naming.specs.Numbers.{Scope}
use Rattle.herm_naming.specs.StatementFaults.{Code, statement_code, within, in_body, in_arms, in_port_arms, in_otherwise}
use Rattle.herm_numbers.specs.Faults.{spans_within, spans_in, arms_spans, port_arms_spans, otherwise_spans, body_spans}
use Rattle.herm_numbers.specs.Statements.{arm_view, port_arm_view, else_view, codes_of, body_codes, arms_codes, port_arms_codes, else_codes, all_spans, all_port_spans, else_spans}

rows_seen : {m : _} (others : forms.Row_of-Stmt m) → stmt_rows_view others ≡ stmts_view (forms.items-the_row-Stmt m others)
rows_seen forms.end_of-Stmt = refl
rows_seen (forms.more_of-Stmt number span form others) = ap (λ t. Further (stmt_form_view form) t) (rows_seen others)

rows_spans : {m : _} (others : forms.Row_of-Stmt m) → spans_in others ≡ body_spans (forms.items-the_row-Stmt m others)
rows_spans forms.end_of-Stmt = refl
rows_spans (forms.more_of-Stmt number span form others) = ap (λ t. span ∷ spans_within form ++ t) (rows_spans others)

abbrev row_in : StmtForm → (m : Count) × forms.Row_of-Stmt m
row_in (forms.For' r t shape body) = (_, body)
row_in (forms.While' e shape body) = (_, body)
row_in (forms.If' e shape body other) = (_, body)
row_in (forms.Try' shape body others handled) = (_, body)
row_in form = (_, forms.end_of-Stmt)

pub for_seen : (r t : PathForm) (body : Vec Stmt Global) → stmt_form_view (For r t body) ≡ ForTree (path_form_view r) (path_form_view t) (stmts_view body.items)
for_seen r t body = ap (λ b. ForTree (path_form_view r) (path_form_view t) b) (rows_seen (row_in (For r t body)).1 ∙ ap stmts_view (forms.items_hidden-the_row-Stmt-0 body))

pub for_spans : (r t : PathForm) (body : Vec Stmt Global) → spans_within (For r t body) ≡ body_spans body.items
for_spans r t body = rows_spans (row_in (For r t body)).1 ∙ ap body_spans (forms.items_hidden-the_row-Stmt-0 body)

pub while_seen : (e : Expr) (body : Vec Stmt Global) → stmt_form_view (While e body) ≡ WhileTree (expr_view e) (stmts_view body.items)
while_seen e body = ap (λ b. WhileTree (expr_view e) b) (rows_seen (row_in (While e body)).1 ∙ ap stmts_view (forms.items_hidden-the_row-Stmt-0 body))

pub while_spans : (e : Expr) (body : Vec Stmt Global) → spans_within (While e body) ≡ body_spans body.items
while_spans e body = rows_spans (row_in (While e body)).1 ∙ ap body_spans (forms.items_hidden-the_row-Stmt-0 body)

-- ---- if and try

abbrev otherwise_in : StmtForm → forms.Held-StmtForm-If-2
otherwise_in (forms.If' e shape body other) = other
otherwise_in form = forms.None'

abbrev else_row : forms.Held-StmtForm-If-2 → (m : Count) × forms.Row_of-Stmt m
else_row (forms.Some' shape body) = (_, body)
else_row forms.None' = (_, forms.end_of-Stmt)

else_seen : (e : Expr) (body : Vec Stmt Global) (other : Option (Vec Stmt Global)) → otherwise_view (otherwise_in (If e body other)) ≡ else_view other
else_seen e body None = refl
else_seen e body (Some x) = ap (λ b. Else b) (rows_seen (else_row (otherwise_in (If e body (Some x)))).1 ∙ ap stmts_view (forms.items_hidden-the_row-Stmt-0 x))

else_places : (e : Expr) (body : Vec Stmt Global) (other : Option (Vec Stmt Global)) → otherwise_spans (otherwise_in (If e body other)) ≡ else_spans other
else_places e body None = refl
else_places e body (Some x) = rows_spans (else_row (otherwise_in (If e body (Some x)))).1 ∙ ap body_spans (forms.items_hidden-the_row-Stmt-0 x)

pub if_seen : (e : Expr) (body : Vec Stmt Global) (other : Option (Vec Stmt Global)) → stmt_form_view (If e body other) ≡ IfTree (expr_view e) (stmts_view body.items) (else_view other)
if_seen e body other =
    ap (λ b. IfTree (expr_view e) b (otherwise_view (otherwise_in (If e body other)))) (rows_seen (row_in (If e body other)).1 ∙ ap stmts_view (forms.items_hidden-the_row-Stmt-0 body))
    ∙ ap (λ o. IfTree (expr_view e) (stmts_view body.items) o) (else_seen e body other)

pub if_spans : (e : Expr) (body : Vec Stmt Global) (other : Option (Vec Stmt Global)) → spans_within (If e body other) ≡ body_spans body.items ++ else_spans other
if_spans e body other =
    ap (λ b. b ++ otherwise_spans (otherwise_in (If e body other))) (rows_spans (row_in (If e body other)).1 ∙ ap body_spans (forms.items_hidden-the_row-Stmt-0 body))
    ∙ ap (λ o. body_spans body.items ++ o) (else_places e body other)

-- ---- arms

arm_same : (n : Letters) (b c : Statements) (r s : Arms) → b ≡ c → r ≡ s → Arm n b r ≡ Arm n c s
arm_same n b c r s e f = ap (λ t. Arm n t r) e ∙ ap (λ t. Arm n c t) f

arms_rows : {m : _} (arms : forms.Row_of-StmtForm-Case-1-3 m) → arms_view arms ≡ reading.arms_of (map arm_view (forms.items-the_row-StmtForm-Case-1-3 m arms))
arms_rows forms.end_of-StmtForm-Case-1-3 = refl
arms_rows (forms.more_of-StmtForm-Case-1-3 name shape body others) =
    arm_same (name_view name) (stmt_rows_view body) _ (arms_view others) _ (rows_seen body ∙ ap stmts_view (sym (forms.items_shown-the_row-Stmt-0 shape body))) (arms_rows others)

arms_places : {m : _} (arms : forms.Row_of-StmtForm-Case-1-3 m) → arms_spans arms ≡ all_spans (forms.items-the_row-StmtForm-Case-1-3 m arms)
arms_places forms.end_of-StmtForm-Case-1-3 = refl
arms_places (forms.more_of-StmtForm-Case-1-3 name shape body others) = ap₂ (λ x y. x ++ y) (rows_spans body ∙ ap body_spans (sym (forms.items_shown-the_row-Stmt-0 shape body))) (arms_places others)

abbrev arms_in : StmtForm → (m : Count) × forms.Row_of-StmtForm-Case-1-3 m
arms_in (forms.Case' v shape arms) = (_, arms)
arms_in (forms.Try' shape body others handled) = (_, handled)
arms_in form = (_, forms.end_of-StmtForm-Case-1-3)

pub case_seen : (v : PathForm) (arms : Vec (Name × Vec Stmt Global) Global) → stmt_form_view (Case v arms) ≡ CaseTree (path_form_view v) (reading.arms_of (map arm_view arms.items))
case_seen v arms = ap (λ a. CaseTree (path_form_view v) a) (arms_rows (arms_in (Case v arms)).1 ∙ ap (λ list. reading.arms_of (map arm_view list)) (forms.items_hidden-the_row-StmtForm-Case-1-3-1 arms))

pub case_spans : (v : PathForm) (arms : Vec (Name × Vec Stmt Global) Global) → spans_within (Case v arms) ≡ all_spans arms.items
case_spans v arms = arms_places (arms_in (Case v arms)).1 ∙ ap (λ list. all_spans list) (forms.items_hidden-the_row-StmtForm-Case-1-3-1 arms)

pub try_seen : (body : Vec Stmt Global) (handled : Vec (Name × Vec Stmt Global) Global) → stmt_form_view (Try body handled) ≡ TryTree (stmts_view body.items) (reading.arms_of (map arm_view handled.items))
try_seen body handled =
    ap (λ b. TryTree b (arms_view (arms_in (Try body handled)).1)) (rows_seen (row_in (Try body handled)).1 ∙ ap stmts_view (forms.items_hidden-the_row-Stmt-0 body))
    ∙ ap (λ a. TryTree (stmts_view body.items) a) (arms_rows (arms_in (Try body handled)).1 ∙ ap (λ list. reading.arms_of (map arm_view list)) (forms.items_hidden-the_row-StmtForm-Case-1-3-1 handled))

pub try_spans : (body : Vec Stmt Global) (handled : Vec (Name × Vec Stmt Global) Global) → spans_within (Try body handled) ≡ body_spans body.items ++ all_spans handled.items
try_spans body handled =
    ap (λ b. b ++ arms_spans (arms_in (Try body handled)).1) (rows_spans (row_in (Try body handled)).1 ∙ ap body_spans (forms.items_hidden-the_row-Stmt-0 body))
    ∙ ap (λ a. body_spans body.items ++ a) (arms_places (arms_in (Try body handled)).1 ∙ ap (λ list. all_spans list) (forms.items_hidden-the_row-StmtForm-Case-1-3-1 handled))

-- ---- arms of a select

port_arm_same : (p t : Path) (b c : Statements) (r s : PortArms) → b ≡ c → r ≡ s → PortArm p t b r ≡ PortArm p t c s
port_arm_same p t b c r s e f = ap (λ x. PortArm p t x r) e ∙ ap (λ x. PortArm p t c x) f

port_rows : {m : _} (arms : forms.Row_of-StmtForm-Select-0-4 m) → port_arms_view arms ≡ reading.port_arms_of (map port_arm_view (forms.items-the_row-StmtForm-Select-0-4 m arms))
port_rows forms.end_of-StmtForm-Select-0-4 = refl
port_rows (forms.more_of-StmtForm-Select-0-4 port target shape body others) =
    port_arm_same (path_form_view port) (path_form_view target) (stmt_rows_view body) _ (port_arms_view others) _ (rows_seen body ∙ ap stmts_view (sym (forms.items_shown-the_row-Stmt-0 shape body))) (port_rows others)

port_places : {m : _} (arms : forms.Row_of-StmtForm-Select-0-4 m) → port_arms_spans arms ≡ all_port_spans (forms.items-the_row-StmtForm-Select-0-4 m arms)
port_places forms.end_of-StmtForm-Select-0-4 = refl
port_places (forms.more_of-StmtForm-Select-0-4 port target shape body others) = ap₂ (λ x y. x ++ y) (rows_spans body ∙ ap body_spans (sym (forms.items_shown-the_row-Stmt-0 shape body))) (port_places others)

abbrev ports_in : StmtForm → (m : Count) × forms.Row_of-StmtForm-Select-0-4 m
ports_in (forms.Select' shape arms) = (_, arms)
ports_in form = (_, forms.end_of-StmtForm-Select-0-4)

pub select_seen : (arms : Vec (PathForm × PathForm × Vec Stmt Global) Global) → stmt_form_view (Select arms) ≡ SelectTree (reading.port_arms_of (map port_arm_view arms.items))
select_seen arms = ap (λ a. SelectTree a) (port_rows (ports_in (Select arms)).1 ∙ ap (λ list. reading.port_arms_of (map port_arm_view list)) (forms.items_hidden-the_row-StmtForm-Select-0-4-2 arms))

pub select_spans : (arms : Vec (PathForm × PathForm × Vec Stmt Global) Global) → spans_within (Select arms) ≡ all_port_spans arms.items
select_spans arms = port_places (ports_in (Select arms)).1 ∙ ap all_port_spans (forms.items_hidden-the_row-StmtForm-Select-0-4-2 arms)

-- ---- the codes within

module _ (s : Scope) where
  abbrev at : Bool × Statement → Option Code
  at x = statement_code s x.0 x.1

  appended : (xs ys : List (Bool × Statement)) (us vs : List (Option Code)) → codes_of s xs ≡ us → codes_of s ys ≡ vs → codes_of s (xs ++ ys) ≡ us ++ vs
  appended xs ys us vs e f = map-append at xs ys ∙ ap₂ (λ x y. x ++ y) e f

  pub body_within : (l : Bool) (xs : List Stmt) → codes_of s (in_body l (stmts_view xs)) ≡ body_codes s l xs
  body_within l [] = refl
  body_within l (x ∷ xs) = appended ((l, stmt_form_view x.form) ∷ within l (stmt_form_view x.form)) (in_body l (stmts_view xs)) _ _ refl (body_within l xs)

  pub arms_within : (l : Bool) (arms : List (Name × Vec Stmt Global)) → codes_of s (in_arms l (reading.arms_of (map arm_view arms))) ≡ arms_codes s l arms
  arms_within l [] = refl
  arms_within l (a ∷ arms) = appended (in_body l (stmts_view a.1.items)) _ _ _ (body_within l a.1.items) (arms_within l arms)

  pub ports_within : (l : Bool) (arms : List (PathForm × PathForm × Vec Stmt Global)) → codes_of s (in_port_arms l (reading.port_arms_of (map port_arm_view arms))) ≡ port_arms_codes s l arms
  ports_within l [] = refl
  ports_within l (a ∷ arms) = appended (in_body l (stmts_view a.2.items)) _ _ _ (body_within l a.2.items) (ports_within l arms)

  else_within : (l : Bool) (other : Option (Vec Stmt Global)) → codes_of s (in_otherwise l (else_view other)) ≡ else_codes s l other
  else_within l None = refl
  else_within l (Some body) = body_within l body.items

  pub for_codes : (l : Bool) (r t : PathForm) (body : Vec Stmt Global) → codes_of s (within l (stmt_form_view (For r t body))) ≡ body_codes s true body.items
  for_codes l r t body = ap (λ x. codes_of s (within l x)) (for_seen r t body) ∙ body_within true body.items

  pub while_codes : (l : Bool) (e : Expr) (body : Vec Stmt Global) → codes_of s (within l (stmt_form_view (While e body))) ≡ body_codes s true body.items
  while_codes l e body = ap (λ x. codes_of s (within l x)) (while_seen e body) ∙ body_within true body.items

  pub if_codes : (l : Bool) (e : Expr) (body : Vec Stmt Global) (other : Option (Vec Stmt Global)) → codes_of s (within l (stmt_form_view (If e body other))) ≡ body_codes s l body.items ++ else_codes s l other
  if_codes l e body other = ap (λ x. codes_of s (within l x)) (if_seen e body other) ∙ appended (in_body l (stmts_view body.items)) _ _ _ (body_within l body.items) (else_within l other)

  pub case_codes : (l : Bool) (v : PathForm) (arms : Vec (Name × Vec Stmt Global) Global) → codes_of s (within l (stmt_form_view (Case v arms))) ≡ arms_codes s l arms.items
  case_codes l v arms = ap (λ x. codes_of s (within l x)) (case_seen v arms) ∙ arms_within l arms.items

  pub select_codes : (l : Bool) (arms : Vec (PathForm × PathForm × Vec Stmt Global) Global) → codes_of s (within l (stmt_form_view (Select arms))) ≡ port_arms_codes s l arms.items
  select_codes l arms = ap (λ x. codes_of s (within l x)) (select_seen arms) ∙ ports_within l arms.items

  pub try_codes : (l : Bool) (body : Vec Stmt Global) (handled : Vec (Name × Vec Stmt Global) Global) → codes_of s (within l (stmt_form_view (Try body handled))) ≡ body_codes s l body.items ++ arms_codes s l handled.items
  try_codes l body handled = ap (λ x. codes_of s (within l x)) (try_seen body handled) ∙ appended (in_body l (stmts_view body.items)) _ _ _ (body_within l body.items) (arms_within l handled.items)
