-- How statements with blocks are seen, and how they go along tokens.
use Rattle.std.proofs.Common.{◌≡◌, ℕ, suc, List, map, Option, Some, None, refl, sym, ap, ◌∙◌, Vec, Global}
use mathlib.Core.Former.{Count}
use mathlib.Core.Path.{fun_ext}
use Rattle.herm_base.specs.declared.word.Name.{Name}
use Rattle.herm_alphabet.specs.declared.token.Token.{Token}
use Rattle.herm_syntax.specs.declared.expressions.Expr.{Expr}
use Rattle.herm_syntax.specs.declared.expressions.PathForm.{PathForm}
use Rattle.herm_syntax.specs.declared.statements.Stmt.{Stmt}
use Rattle.herm_syntax.specs.declared.statements.StmtForm.{StmtForm, Case, For, If, While, Try, Select}
use Rattle.herm_syntax.specs.declared.statements.StmtForm.TheBlock as forms
use Rattle.herm_syntax.specs.Trees.{Letters, Path, Statements, Further, Arms, Arm, PortArms, PortArm, Else, Case as CaseTree, For as ForTree, If as IfTree, While as WhileTree, Try as TryTree, Select as SelectTree}
use Rattle.herm_syntax.specs.ReadStatements as reading
use Rattle.herm_syntax.specs.View.{name_view, path_form_view, expr_view, stmt_form_view, stmt_rows_view, arms_view, port_arms_view, otherwise_view, stmts_view}
use Rattle.herm_parser.specs.Along.{◌>>=◌, past_token, past_name, past_path, past_expression}
use Rattle.herm_parser.specs.Walk.{Walked, Moved, past_end, past_pair, blocked, stated, walk_form, walk_statements, walk_arms, walk_port_arms, walk_otherwise, walk_body, walk_arm, walk_each, walk_port_arm, walk_else}
use Rattle.herm_parser.specs.Blocks.{arm_view, port_arm_view, else_view}

alike : {A B : Type 0} → (first : Option A) (f g : A → Option B) → ((a : A) → f a ≡ g a) → (first >>= f) ≡ (first >>= g)
alike None f g same = refl
alike (Some a) f g same = same a

then_same : {A B : Type 0} → (x y : Option A) (f g : A → Option B) → x ≡ y → f ≡ g → (x >>= f) ≡ (y >>= g)
then_same x y f g e h = ap (λ t. t >>= f) e ∙ ap (λ k. y >>= k) h

-- ---- blocks

rows_seen : {m : _} (others : forms.Row_of-Stmt m) → stmt_rows_view others ≡ stmts_view (forms.items-the_row-Stmt m others)
rows_seen forms.end_of-Stmt = refl
rows_seen (forms.more_of-Stmt number span form others) = ap (λ t. Further (stmt_form_view form) t) (rows_seen others)

rows_walk_at : {m : _} (others : forms.Row_of-Stmt m) (n : ℕ) (tokens : List Token) → walk_statements others n tokens ≡ walk_body (forms.items-the_row-Stmt m others) n tokens
rows_walk_at forms.end_of-Stmt n tokens = refl
rows_walk_at (forms.more_of-Stmt number span form others) n tokens =
    alike (stated number span n tokens (walk_form form (suc n) tokens)) (λ w. walk_statements others w.0 w.1) (λ w. walk_body (forms.items-the_row-Stmt _ others) w.0 w.1) (λ w. rows_walk_at others w.0 w.1)

abbrev Walker : Type 0
Walker = ℕ → List Token → Moved

abbrev walker : {m : _} → forms.Row_of-Stmt m → Walker
walker others n tokens = walk_statements others n tokens

rows_walk : {m : _} (others : forms.Row_of-Stmt m) → walker others ≡ walk_body (forms.items-the_row-Stmt m others)
rows_walk others = fun_ext (λ n. fun_ext (λ tokens. rows_walk_at others n tokens))

abbrev row_in : StmtForm → (m : Count) × forms.Row_of-Stmt m
row_in (forms.For' r t shape body) = (_, body)
row_in (forms.While' e shape body) = (_, body)
row_in (forms.If' e shape body other) = (_, body)
row_in (forms.Try' shape body others handled) = (_, body)
row_in form = (_, forms.end_of-Stmt)

for_rows : (r t : PathForm) (body : Vec Stmt Global) → forms.items-the_row-Stmt (row_in (For r t body)).0 (row_in (For r t body)).1 ≡ body.items
for_rows r t body = forms.items_hidden-the_row-Stmt-0 body

while_rows : (e : Expr) (body : Vec Stmt Global) → forms.items-the_row-Stmt (row_in (While e body)).0 (row_in (While e body)).1 ≡ body.items
while_rows e body = forms.items_hidden-the_row-Stmt-0 body

if_rows : (e : Expr) (body : Vec Stmt Global) (other : Option (Vec Stmt Global)) → forms.items-the_row-Stmt (row_in (If e body other)).0 (row_in (If e body other)).1 ≡ body.items
if_rows e body other = forms.items_hidden-the_row-Stmt-0 body

pub for_seen : (r t : PathForm) (body : Vec Stmt Global) → stmt_form_view (For r t body) ≡ ForTree (path_form_view r) (path_form_view t) (stmts_view body.items)
for_seen r t body = ap (λ b. ForTree (path_form_view r) (path_form_view t) b) (rows_seen (row_in (For r t body)).1 ∙ ap stmts_view (for_rows r t body))

pub while_seen : (e : Expr) (body : Vec Stmt Global) → stmt_form_view (While e body) ≡ WhileTree (expr_view e) (stmts_view body.items)
while_seen e body = ap (λ b. WhileTree (expr_view e) b) (rows_seen (row_in (While e body)).1 ∙ ap stmts_view (while_rows e body))

pub for_walk : (r t : PathForm) (body : Vec Stmt Global) (n : ℕ) (tokens : List Token) →
    walk_form (For r t body) n tokens ≡ (past_token tokens >>= λ a. past_pair r t a >>= λ b. blocked (walk_body body.items) n b)
for_walk r t body n tokens = ap (λ (walk : Walker). past_token tokens >>= λ a. past_pair r t a >>= λ b. blocked walk n b) (rows_walk (row_in (For r t body)).1 ∙ ap walk_body (for_rows r t body))

pub while_walk : (e : Expr) (body : Vec Stmt Global) (n : ℕ) (tokens : List Token) →
    walk_form (While e body) n tokens ≡ (past_token tokens >>= λ a. past_expression e a >>= λ b. blocked (walk_body body.items) n b)
while_walk e body n tokens = ap (λ (walk : Walker). past_token tokens >>= λ a. past_expression e a >>= λ b. blocked walk n b) (rows_walk (row_in (While e body)).1 ∙ ap walk_body (while_rows e body))

-- ---- if and try

abbrev otherwise_in : StmtForm → forms.Held-StmtForm-If-2
otherwise_in (forms.If' e shape body other) = other
otherwise_in form = forms.None'

abbrev else_row : forms.Held-StmtForm-If-2 → (m : Count) × forms.Row_of-Stmt m
else_row (forms.Some' shape body) = (_, body)
else_row forms.None' = (_, forms.end_of-Stmt)

else_rows : (e : Expr) (body x : Vec Stmt Global) → forms.items-the_row-Stmt (else_row (otherwise_in (If e body (Some x)))).0 (else_row (otherwise_in (If e body (Some x)))).1 ≡ x.items
else_rows e body x = forms.items_hidden-the_row-Stmt-0 x

else_seen : (e : Expr) (body : Vec Stmt Global) (other : Option (Vec Stmt Global)) → otherwise_view (otherwise_in (If e body other)) ≡ else_view other
else_seen e body None = refl
else_seen e body (Some x) = ap (λ b. Else b) (rows_seen (else_row (otherwise_in (If e body (Some x)))).1 ∙ ap stmts_view (else_rows e body x))

pub if_seen : (e : Expr) (body : Vec Stmt Global) (other : Option (Vec Stmt Global)) → stmt_form_view (If e body other) ≡ IfTree (expr_view e) (stmts_view body.items) (else_view other)
if_seen e body other =
    ap (λ b. IfTree (expr_view e) b (otherwise_view (otherwise_in (If e body other)))) (rows_seen (row_in (If e body other)).1 ∙ ap stmts_view (if_rows e body other))
    ∙ ap (λ o. IfTree (expr_view e) (stmts_view body.items) o) (else_seen e body other)

else_walk : (e : Expr) (body : Vec Stmt Global) (other : Option (Vec Stmt Global)) (w : ℕ × (ℕ × List Token)) → walk_otherwise (otherwise_in (If e body other)) w ≡ walk_else other w
else_walk e body None w = refl
else_walk e body (Some x) w = ap (λ (walk : Walker). past_token w.1.1 >>= λ a. blocked walk w.0 a) (rows_walk (else_row (otherwise_in (If e body (Some x)))).1 ∙ ap walk_body (else_rows e body x))

pub if_walk : (e : Expr) (body : Vec Stmt Global) (other : Option (Vec Stmt Global)) (n : ℕ) (tokens : List Token) →
    walk_form (If e body other) n tokens ≡ (past_token tokens >>= λ a. past_expression e a >>= λ b. blocked (walk_body body.items) n b >>= λ w. walk_else other w)
if_walk e body other n tokens =
    ap (λ (walk : Walker). past_token tokens >>= λ a. past_expression e a >>= λ b. blocked walk n b >>= λ w. walk_otherwise (otherwise_in (If e body other)) w) (rows_walk (row_in (If e body other)).1 ∙ ap walk_body (if_rows e body other))
    ∙ ap (λ (walk : ℕ × (ℕ × List Token) → Walked). past_token tokens >>= λ a. past_expression e a >>= λ b. blocked (walk_body body.items) n b >>= λ w. walk w) (fun_ext (else_walk e body other))

-- ---- arms

arm_same : (n : Letters) (b c : Statements) (r s : Arms) → b ≡ c → r ≡ s → Arm n b r ≡ Arm n c s
arm_same n b c r s e f = ap (λ t. Arm n t r) e ∙ ap (λ t. Arm n c t) f

arms_rows : {m : _} (arms : forms.Row_of-StmtForm-Case-1-3 m) → arms_view arms ≡ reading.arms_of (map arm_view (forms.items-the_row-StmtForm-Case-1-3 m arms))
arms_rows forms.end_of-StmtForm-Case-1-3 = refl
arms_rows (forms.more_of-StmtForm-Case-1-3 name shape body others) =
    arm_same (name_view name) (stmt_rows_view body) _ (arms_view others) _ (rows_seen body ∙ ap stmts_view (sym (forms.items_shown-the_row-Stmt-0 shape body))) (arms_rows others)

arms_walk_at : {m : _} (arms : forms.Row_of-StmtForm-Case-1-3 m) (w : ℕ × (ℕ × List Token)) → walk_arms arms w ≡ walk_each walk_arm (forms.items-the_row-StmtForm-Case-1-3 m arms) w
arms_walk_at forms.end_of-StmtForm-Case-1-3 w = refl
arms_walk_at (forms.more_of-StmtForm-Case-1-3 name shape body others) w =
    then_same (past_token w.1.1 >>= λ a. past_name name a >>= λ b. blocked (walker body) w.0 b) _ (λ v. walk_arms others v) (walk_each walk_arm (forms.items-the_row-StmtForm-Case-1-3 _ others))
    (ap (λ (walk : Walker). past_token w.1.1 >>= λ a. past_name name a >>= λ b. blocked walk w.0 b) (rows_walk body ∙ ap walk_body (sym (forms.items_shown-the_row-Stmt-0 shape body)))) (fun_ext (arms_walk_at others))

abbrev arms_in : StmtForm → (m : Count) × forms.Row_of-StmtForm-Case-1-3 m
arms_in (forms.Case' v shape arms) = (_, arms)
arms_in (forms.Try' shape body others handled) = (_, handled)
arms_in form = (_, forms.end_of-StmtForm-Case-1-3)

case_rows : (v : PathForm) (arms : Vec (Name × Vec Stmt Global) Global) → forms.items-the_row-StmtForm-Case-1-3 (arms_in (Case v arms)).0 (arms_in (Case v arms)).1 ≡ arms.items
case_rows v arms = forms.items_hidden-the_row-StmtForm-Case-1-3-1 arms

pub case_seen : (v : PathForm) (arms : Vec (Name × Vec Stmt Global) Global) → stmt_form_view (Case v arms) ≡ CaseTree (path_form_view v) (reading.arms_of (map arm_view arms.items))
case_seen v arms = ap (λ a. CaseTree (path_form_view v) a) (arms_rows (arms_in (Case v arms)).1 ∙ ap (λ list. reading.arms_of (map arm_view list)) (case_rows v arms))

pub case_walk : (v : PathForm) (arms : Vec (Name × Vec Stmt Global) Global) (n : ℕ) (tokens : List Token) →
    walk_form (Case v arms) n tokens ≡ (past_token tokens >>= λ a. past_path v a >>= λ b. past_token b >>= λ c. walk_each walk_arm arms.items (n, (0, c)) >>= λ w. past_end w.0 w.1.1)
case_walk v arms n tokens = ap (λ (walk : ℕ × (ℕ × List Token) → Walked). past_token tokens >>= λ a. past_path v a >>= λ b. past_token b >>= λ c. walk (n, (0, c)) >>= λ w. past_end w.0 w.1.1)
    (fun_ext (arms_walk_at (arms_in (Case v arms)).1) ∙ ap (walk_each walk_arm) (case_rows v arms))

try_rows : (body : Vec Stmt Global) (handled : Vec (Name × Vec Stmt Global) Global) → forms.items-the_row-Stmt (row_in (Try body handled)).0 (row_in (Try body handled)).1 ≡ body.items
try_rows body handled = forms.items_hidden-the_row-Stmt-0 body

handled_rows : (body : Vec Stmt Global) (handled : Vec (Name × Vec Stmt Global) Global) → forms.items-the_row-StmtForm-Case-1-3 (arms_in (Try body handled)).0 (arms_in (Try body handled)).1 ≡ handled.items
handled_rows body handled = forms.items_hidden-the_row-StmtForm-Case-1-3-1 handled

pub try_seen : (body : Vec Stmt Global) (handled : Vec (Name × Vec Stmt Global) Global) → stmt_form_view (Try body handled) ≡ TryTree (stmts_view body.items) (reading.arms_of (map arm_view handled.items))
try_seen body handled =
    ap (λ b. TryTree b (arms_view (arms_in (Try body handled)).1)) (rows_seen (row_in (Try body handled)).1 ∙ ap stmts_view (try_rows body handled))
    ∙ ap (λ a. TryTree (stmts_view body.items) a) (arms_rows (arms_in (Try body handled)).1 ∙ ap (λ list. reading.arms_of (map arm_view list)) (handled_rows body handled))

pub try_walk : (body : Vec Stmt Global) (handled : Vec (Name × Vec Stmt Global) Global) (n : ℕ) (tokens : List Token) →
    walk_form (Try body handled) n tokens ≡ (past_token tokens >>= λ a. blocked (walk_body body.items) n a >>= λ w. walk_each walk_arm handled.items w)
try_walk body handled n tokens =
    ap (λ (walk : Walker). past_token tokens >>= λ a. blocked walk n a >>= λ w. walk_arms (arms_in (Try body handled)).1 w) (rows_walk (row_in (Try body handled)).1 ∙ ap walk_body (try_rows body handled))
    ∙ ap (λ (walk : ℕ × (ℕ × List Token) → Walked). past_token tokens >>= λ a. blocked (walk_body body.items) n a >>= λ w. walk w) (fun_ext (arms_walk_at (arms_in (Try body handled)).1) ∙ ap (walk_each walk_arm) (handled_rows body handled))

-- ---- arms of a select

port_arm_same : (p t : Path) (b c : Statements) (r s : PortArms) → b ≡ c → r ≡ s → PortArm p t b r ≡ PortArm p t c s
port_arm_same p t b c r s e f = ap (λ x. PortArm p t x r) e ∙ ap (λ x. PortArm p t c x) f

port_rows : {m : _} (arms : forms.Row_of-StmtForm-Select-0-4 m) → port_arms_view arms ≡ reading.port_arms_of (map port_arm_view (forms.items-the_row-StmtForm-Select-0-4 m arms))
port_rows forms.end_of-StmtForm-Select-0-4 = refl
port_rows (forms.more_of-StmtForm-Select-0-4 port target shape body others) =
    port_arm_same (path_form_view port) (path_form_view target) (stmt_rows_view body) _ (port_arms_view others) _ (rows_seen body ∙ ap stmts_view (sym (forms.items_shown-the_row-Stmt-0 shape body))) (port_rows others)

port_walk_at : {m : _} (arms : forms.Row_of-StmtForm-Select-0-4 m) (w : ℕ × (ℕ × List Token)) → walk_port_arms arms w ≡ walk_each walk_port_arm (forms.items-the_row-StmtForm-Select-0-4 m arms) w
port_walk_at forms.end_of-StmtForm-Select-0-4 w = refl
port_walk_at (forms.more_of-StmtForm-Select-0-4 port target shape body others) w =
    then_same (past_token w.1.1 >>= λ a. past_pair port target a >>= λ b. blocked (walker body) w.0 b) _ (λ v. walk_port_arms others v) (walk_each walk_port_arm (forms.items-the_row-StmtForm-Select-0-4 _ others))
    (ap (λ (walk : Walker). past_token w.1.1 >>= λ a. past_pair port target a >>= λ b. blocked walk w.0 b) (rows_walk body ∙ ap walk_body (sym (forms.items_shown-the_row-Stmt-0 shape body)))) (fun_ext (port_walk_at others))

abbrev ports_in : StmtForm → (m : Count) × forms.Row_of-StmtForm-Select-0-4 m
ports_in (forms.Select' shape arms) = (_, arms)
ports_in form = (_, forms.end_of-StmtForm-Select-0-4)

select_rows : (arms : Vec (PathForm × PathForm × Vec Stmt Global) Global) → forms.items-the_row-StmtForm-Select-0-4 (ports_in (Select arms)).0 (ports_in (Select arms)).1 ≡ arms.items
select_rows arms = forms.items_hidden-the_row-StmtForm-Select-0-4-2 arms

pub select_seen : (arms : Vec (PathForm × PathForm × Vec Stmt Global) Global) → stmt_form_view (Select arms) ≡ SelectTree (reading.port_arms_of (map port_arm_view arms.items))
select_seen arms = ap (λ a. SelectTree a) (port_rows (ports_in (Select arms)).1 ∙ ap (λ list. reading.port_arms_of (map port_arm_view list)) (select_rows arms))

pub select_walk : (arms : Vec (PathForm × PathForm × Vec Stmt Global) Global) (n : ℕ) (tokens : List Token) →
    walk_form (Select arms) n tokens ≡ (past_token tokens >>= λ a. past_token a >>= λ b. walk_each walk_port_arm arms.items (n, (0, b)) >>= λ w. past_end w.0 w.1.1)
select_walk arms n tokens = ap (λ (walk : ℕ × (ℕ × List Token) → Walked). past_token tokens >>= λ a. past_token a >>= λ b. walk (n, (0, b)) >>= λ w. past_end w.0 w.1.1)
    (fun_ext (port_walk_at (ports_in (Select arms)).1) ∙ ap (walk_each walk_port_arm) (select_rows arms))
