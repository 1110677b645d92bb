-- Where the statements of a process begin is read off the tokens, by what is seen of the trees.
use Rattle.std.proofs.Common.{◌≡◌, ℕ, suc, true, ◌==◌, ◌&&◌, List, [], ◌∷◌, ◌++◌, Option, Some, None, map, refl, ap, ◌∙◌, eqb-true}
use Rattle.std.proofs.lemmas.List.{map-append}
use Rattle.herm_base.specs.declared.numbers.StmtNo.{StmtNo}
use Rattle.herm_base.specs.declared.word.Span.{Span}
use Rattle.herm_base.specs.declared.word.Name.{Name}
use Rattle.herm_syntax.specs.declared.expressions.PathForm.{PathForm}
use Rattle.herm_syntax.specs.declared.statements.Stmt.{Stmt}
use Rattle.herm_syntax.specs.declared.statements.StmtForm.{StmtForm}
use Rattle.herm_syntax.specs.declared.statements.StmtForm.TheBlock as forms
use Rattle.herm_syntax.specs.View.{path_form_view, stmt_form_view, stmt_rows_view, arms_view, port_arms_view, otherwise_view, stmts_view}
use Rattle.herm_syntax.specs.Trees.{Statement, Assign, Move, New, Discard, Unite, Dissolve, Reveal, Case, Wrap, Unwrap, Insert, Remove, Get, For, Connect, Send, Receive, Select, Call, Return, ReturnBy, Create, If, While, Raise, Leave, Try, Statements, NoStatement, Further, Arms, NoArm, Arm, PortArms, NoPortArm, PortArm, Otherwise, NoElse, Else}
use Rattle.herm_parser.specs.Along.{◌>>=◌, past_token, past_name}
use Rattle.herm_parser.specs.Walk.{Walked, Moved, past_end, past_pair, begins, stated, blocked, walk_form, walk_statements, walk_arms, walk_port_arms, walk_otherwise, walk_body}
use Rattle.herm_numbers.specs.Faults.{spans_within, spans_in, arms_spans, port_arms_spans, otherwise_spans, body_spans}
use Rattle.herm_compile.proofs.Leads.{Tokens, tail, Leads, plain, moved, walked, token_goes, name_goes, path_goes, expression_goes, pair_goes, block_goes, stated_goes, arm_goes, port_arm_goes, form_goes, statements_go, skip_path, skip_expression, skip_pair, skip_statement, skip_statements}
use Rattle.herm_compile.proofs.Told.{Told, Known, first_known, then_known, both_known, known_so, both_true, taken_true}

-- ---- by the view

abbrev pub start_at : Tokens → ℕ
start_at [] = 0
start_at (t ∷ tokens) = t.span.start

-- where the statements within a statement begin, and those of a block, an arm after the other
abbrev mutual
  pub starts_within : Statement → Tokens → List ℕ
  starts_within (Assign x e) tokens = []
  starts_within (Move y x) tokens = []
  starts_within (New x) tokens = []
  starts_within (Discard x) tokens = []
  starts_within (Unite y x) tokens = []
  starts_within (Dissolve y x) tokens = []
  starts_within (Reveal x) tokens = []
  starts_within (Wrap y x) tokens = []
  starts_within (Unwrap p name y) tokens = []
  starts_within (Insert y x) tokens = []
  starts_within (Remove r t keys) tokens = []
  starts_within (Get r t keys) tokens = []
  starts_within (Connect y x) tokens = []
  starts_within (Send y x) tokens = []
  starts_within (Receive y x) tokens = []
  starts_within (Call o arguments) tokens = []
  starts_within (Return m) tokens = []
  starts_within (ReturnBy m name) tokens = []
  starts_within (Create m name) tokens = []
  starts_within (Raise name) tokens = []
  starts_within Leave tokens = []
  starts_within (Case v arms) tokens = arms_starts arms (tail (skip_path v (tail tokens)))
  starts_within (For r t body) tokens = statement_starts body (tail (skip_pair r t (tail tokens)))
  starts_within (Select arms) tokens = port_arms_starts arms (tail (tail tokens))
  starts_within (If e body other) tokens =
      statement_starts body (tail (skip_expression e (tail tokens))) ++ otherwise_starts other (tail (skip_statements body (tail (skip_expression e (tail tokens)))))
  starts_within (While e body) tokens = statement_starts body (tail (skip_expression e (tail tokens)))
  starts_within (Try body handled) tokens = statement_starts body (tail (tail tokens)) ++ arms_starts handled (tail (skip_statements body (tail (tail tokens))))

  pub statement_starts : Statements → Tokens → List ℕ
  statement_starts NoStatement tokens = []
  statement_starts (Further s others) tokens = start_at tokens ∷ (starts_within s tokens ++ statement_starts others (skip_statement s tokens))

  pub arms_starts : Arms → Tokens → List ℕ
  arms_starts NoArm tokens = []
  arms_starts (Arm name body others) tokens = statement_starts body (tail (tail (tail tokens))) ++ arms_starts others (tail (skip_statements body (tail (tail (tail tokens)))))

  pub port_arms_starts : PortArms → Tokens → List ℕ
  port_arms_starts NoPortArm tokens = []
  port_arms_starts (PortArm port target body others) tokens =
      statement_starts body (tail (skip_pair port target (tail tokens))) ++ port_arms_starts others (tail (skip_statements body (tail (skip_pair port target (tail tokens)))))

  pub otherwise_starts : Otherwise → Tokens → List ℕ
  otherwise_starts NoElse tokens = []
  otherwise_starts (Else body) tokens = statement_starts body (tail (tail tokens))

-- ---- by the tree

abbrev pub start_of : Span → ℕ
start_of span = span.start

-- Statements at these places begin where this says.
abbrev Begin : {A B : Type 0} → (A → Tokens) → (A → Option B) → List Span → (Tokens → List ℕ) → Type 0
Begin before past spans at = Told before past (λ t. map start_of spans ≡ at t)

at_number : (n : ℕ) → {past : ℕ × Tokens → Moved} → {P : Tokens → Type 0} → Told moved past P → Told plain (λ t. past (n, t)) P
at_number n x = record { known = λ t w e. x.known (n, t) w e }

at_walk : (n : ℕ) → {past : ℕ × (ℕ × Tokens) → Walked} → {P : Tokens → Type 0} → Told walked past P → Told plain (λ t. past (n, (0, t))) P
at_walk n x = record { known = λ t w e. x.known (n, (0, t)) w e }

of_walk : {past : ℕ → Tokens → Walked} → {P : Tokens → Type 0} → ((n : ℕ) → Told plain (past n) P) → Told walked (λ w. past w.0 w.1.1) P
of_walk x = record { known = λ w v e. (x w.0).known w.1.1 v e }

block_begins : (inner : ℕ → Tokens → Moved) (spans : List Span) (at : Tokens → List ℕ) → Begin moved (λ w. inner w.0 w.1) spans at → (n : ℕ) → Begin plain (blocked inner n) spans (λ t. at (tail t))
block_begins inner spans at x n = then_known token_goes (first_known (λ w. past_end w.0 w.1) (at_number n x))

arm_begins : (name : Name) (inner : ℕ → Tokens → Moved) (spans : List Span) (at : Tokens → List ℕ) → Begin moved (λ w. inner w.0 w.1) spans at →
    Begin walked (λ w. past_token w.1.1 >>= λ a. past_name name a >>= λ b. blocked inner w.0 b) spans (λ t. at (tail (tail (tail t))))
arm_begins name inner spans at x = of_walk (λ n. then_known token_goes (then_known (name_goes name) (block_begins inner spans at x n)))

port_arm_begins : (port target : PathForm) (inner : ℕ → Tokens → Moved) (spans : List Span) (at : Tokens → List ℕ) → Begin moved (λ w. inner w.0 w.1) spans at →
    Begin walked (λ w. past_token w.1.1 >>= λ a. past_pair port target a >>= λ b. blocked inner w.0 b) spans (λ t. at (tail (skip_pair (path_form_view port) (path_form_view target) (tail t))))
port_arm_begins port target inner spans at x = of_walk (λ n. then_known token_goes (then_known (pair_goes port target) (block_begins inner spans at x n)))

joined : (xs ys : List Span) (ms ns : List ℕ) → map start_of xs ≡ ms → map start_of ys ≡ ns → map start_of (xs ++ ys) ≡ ms ++ ns
joined xs ys ms ns e d = map-append start_of xs ys ∙ (ap (λ l. l ++ map start_of ys) e ∙ ap (λ l. ms ++ l) d)

-- statements, and then others
both_begin : {A B C : Type 0} → {before : A → Tokens} → {middle : B → Tokens} → {p : A → Option B} → {q : B → Option C} → {f : Tokens → Tokens} → (xs ys : List Span) (first behind : Tokens → List ℕ) →
    Leads before middle p f → Begin before p xs first → Begin middle q ys behind → Begin before (λ a. p a >>= q) (xs ++ ys) (λ t. first t ++ behind (f t))
both_begin {f = f} xs ys first behind g x y = known_so (λ t h. joined xs ys (first t) (behind (f t)) h.0 h.1) (both_known g x y)

stated_where : (number : StmtNo) (span : Span) (n : ℕ) (tokens : Tokens) (first : Walked) (w : ℕ × Tokens) → stated number span n tokens first ≡ Some w → (v : ℕ × (ℕ × Tokens)) × (first ≡ Some v) × (begins span tokens ≡ true)
stated_where number span n tokens None w e = absurd (cc)
stated_where number span n tokens (Some v) w e =
    let holds = taken_true (number.0 == n && (begins span tokens && span.end == v.1.0)) (v.0, v.1.1) w e in
    let there = both_true (number.0 == n) (begins span tokens && span.end == v.1.0) holds in
    (v, refl, (both_true (begins span tokens) (span.end == v.1.0) there.1).0)

begins_there : (span : Span) (tokens : Tokens) → begins span tokens ≡ true → span.start ≡ start_at tokens
begins_there span [] e = absurd (cc)
begins_there span (t ∷ tokens) e = eqb-true span.start t.span.start e

-- a statement, with those within it
stated_begins : (number : StmtNo) (span : Span) (past : ℕ → Tokens → Walked) (within : List Span) (at : Tokens → List ℕ) → ((n : ℕ) → Begin plain (past n) within at) →
    Begin moved (λ w. stated number span w.0 w.1 (past (suc w.0) w.1)) (span ∷ within) (λ t. start_at t ∷ at t)
stated_begins number span past within at x = record {
  known = λ w v e.
      let s = stated_where number span w.0 w.1 (past (suc w.0) w.1) v e in
      ap (λ n. n ∷ map start_of within) (begins_there span w.1 s.2) ∙ ap (λ ns. start_at w.1 ∷ ns) ((x (suc w.0)).known w.1 s.0 s.1);
}

none_begin : {A B : Type 0} → {before : A → Tokens} → {past : A → Option B} → Begin before past [] (λ t. [])
none_begin = record { known = λ a b e. refl }

mutual
  form_begins : (form : StmtForm) (n : ℕ) → Begin plain (walk_form form n) (spans_within form) (starts_within (stmt_form_view form))
  form_begins (forms.Assign x e) n = none_begin
  form_begins (forms.Move y x) n = none_begin
  form_begins (forms.New x) n = none_begin
  form_begins (forms.Discard x) n = none_begin
  form_begins (forms.Unite v y) n = none_begin
  form_begins (forms.Dissolve v y) n = none_begin
  form_begins (forms.Reveal v) n = none_begin
  form_begins (forms.Wrap y p) n = none_begin
  form_begins (forms.Unwrap p name y) n = none_begin
  form_begins (forms.Insert r t) n = none_begin
  form_begins (forms.Remove r t keys) n = none_begin
  form_begins (forms.Get r t keys) n = none_begin
  form_begins (forms.Connect o i) n = none_begin
  form_begins (forms.Send x o) n = none_begin
  form_begins (forms.Receive x i) n = none_begin
  form_begins (forms.Call o arguments) n = none_begin
  form_begins (forms.Return m) n = none_begin
  form_begins (forms.ReturnBy m name) n = none_begin
  form_begins (forms.Create o name) n = none_begin
  form_begins (forms.Raise name) n = none_begin
  form_begins forms.Leave n = none_begin
  form_begins (forms.Case' v shape arms) n = then_known token_goes (then_known (path_goes v) (then_known token_goes (first_known (λ w. past_end w.0 w.1.1) (at_walk n (arms_begin arms)))))
  form_begins (forms.Select' shape arms) n = then_known token_goes (then_known token_goes (first_known (λ w. past_end w.0 w.1.1) (at_walk n (port_arms_begin arms))))
  form_begins (forms.For' r t shape body) n = then_known token_goes (then_known (pair_goes r t) (block_begins (λ m c. walk_statements body m c) (spans_in body) (statement_starts (stmt_rows_view body)) (statements_begin body) n))
  form_begins (forms.While' e shape body) n = then_known token_goes (then_known (expression_goes e) (block_begins (λ m c. walk_statements body m c) (spans_in body) (statement_starts (stmt_rows_view body)) (statements_begin body) n))
  form_begins (forms.If' e shape body other) n =
      then_known token_goes (then_known (expression_goes e)
      (both_begin (spans_in body) (otherwise_spans other) (λ t. statement_starts (stmt_rows_view body) (tail t)) (otherwise_starts (otherwise_view other))
      (block_goes (λ m c. walk_statements body m c) (skip_statements (stmt_rows_view body)) (statements_go body) n) (block_begins (λ m c. walk_statements body m c) (spans_in body) (statement_starts (stmt_rows_view body)) (statements_begin body) n) (otherwise_begins other)))
  form_begins (forms.Try' shape body shape_of_handlers handled) n =
      then_known token_goes
      (both_begin (spans_in body) (arms_spans handled) (λ t. statement_starts (stmt_rows_view body) (tail t)) (arms_starts (arms_view handled))
      (block_goes (λ m c. walk_statements body m c) (skip_statements (stmt_rows_view body)) (statements_go body) n) (block_begins (λ m c. walk_statements body m c) (spans_in body) (statement_starts (stmt_rows_view body)) (statements_begin body) n) (arms_begin handled))

  statements_begin : {m : _} (body : forms.Row_of-Stmt m) → Begin moved (λ w. walk_statements body w.0 w.1) (spans_in body) (statement_starts (stmt_rows_view body))
  statements_begin forms.end_of-Stmt = none_begin
  statements_begin (forms.more_of-Stmt number span form others) =
      both_begin (span ∷ spans_within form) (spans_in others) (λ t. start_at t ∷ starts_within (stmt_form_view form) t) (statement_starts (stmt_rows_view others))
      (stated_goes number span (λ n. form_goes form n)) (stated_begins number span (walk_form form) (spans_within form) (starts_within (stmt_form_view form)) (λ n. form_begins form n)) (statements_begin others)

  arms_begin : {m : _} (arms : forms.Row_of-StmtForm-Case-1-3 m) → Begin walked (walk_arms arms) (arms_spans arms) (arms_starts (arms_view arms))
  arms_begin forms.end_of-StmtForm-Case-1-3 = none_begin
  arms_begin (forms.more_of-StmtForm-Case-1-3 name shape body others) =
      both_begin (spans_in body) (arms_spans others) (λ t. statement_starts (stmt_rows_view body) (tail (tail (tail t)))) (arms_starts (arms_view others))
      (arm_goes name (λ m c. walk_statements body m c) (skip_statements (stmt_rows_view body)) (statements_go body))
      (arm_begins name (λ m c. walk_statements body m c) (spans_in body) (statement_starts (stmt_rows_view body)) (statements_begin body)) (arms_begin others)

  port_arms_begin : {m : _} (arms : forms.Row_of-StmtForm-Select-0-4 m) → Begin walked (walk_port_arms arms) (port_arms_spans arms) (port_arms_starts (port_arms_view arms))
  port_arms_begin forms.end_of-StmtForm-Select-0-4 = none_begin
  port_arms_begin (forms.more_of-StmtForm-Select-0-4 port target shape body others) =
      both_begin (spans_in body) (port_arms_spans others) (λ t. statement_starts (stmt_rows_view body) (tail (skip_pair (path_form_view port) (path_form_view target) (tail t)))) (port_arms_starts (port_arms_view others))
      (port_arm_goes port target (λ m c. walk_statements body m c) (skip_statements (stmt_rows_view body)) (statements_go body))
      (port_arm_begins port target (λ m c. walk_statements body m c) (spans_in body) (statement_starts (stmt_rows_view body)) (statements_begin body)) (port_arms_begin others)

  otherwise_begins : (other : forms.Held-StmtForm-If-2) → Begin walked (walk_otherwise other) (otherwise_spans other) (otherwise_starts (otherwise_view other))
  otherwise_begins forms.None' = none_begin
  otherwise_begins (forms.Some' shape body) = of_walk (λ n. then_known token_goes (block_begins (λ m c. walk_statements body m c) (spans_in body) (statement_starts (stmt_rows_view body)) (statements_begin body) n))

body_begins : (body : List Stmt) → Begin moved (λ w. walk_body body w.0 w.1) (body_spans body) (statement_starts (stmts_view body))
body_begins [] = none_begin
body_begins (s ∷ others) =
    both_begin (s.span ∷ spans_within s.form) (body_spans others) (λ t. start_at t ∷ starts_within (stmt_form_view s.form) t) (statement_starts (stmts_view others))
    (stated_goes s.no s.span (λ n. form_goes s.form n)) (stated_begins s.no s.span (walk_form s.form) (spans_within s.form) (starts_within (stmt_form_view s.form)) (λ n. form_begins s.form n)) (body_begins others)

-- The statements of a process begin where its view and its tokens say.
pub process_begins : (body : List Stmt) → Known (λ t. walk_body body 1 t >>= λ w. Some w.1) (λ t. map start_of (body_spans body) ≡ statement_starts (stmts_view body) t)
process_begins body = first_known (λ w. Some w.1) (at_number 1 (body_begins body))
