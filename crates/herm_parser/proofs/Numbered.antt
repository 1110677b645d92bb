-- What goes along tokens has its statements numbered: the next number behind a walk is the first one and how many numbers the
-- tree has, and these are the numbers from the first one on.
use Rattle.std.proofs.Common.{◌≡◌, ℕ, zero, suc, ◌+◌, Bool, true, false, ◌==◌, ◌&&◌, if◌then◌else◌, List, [], ◌∷◌, ◌++◌, Option, Some, None, refl, ap, ◌∙◌, subst, append-nil, eqb-true, arith}
use Rattle.std.specs.List.{AllByRecursion}
use Rattle.herm_base.specs.declared.numbers.StmtNo.{StmtNo}
use Rattle.herm_base.specs.declared.word.Span.{Span}
use Rattle.herm_alphabet.specs.declared.token.Token.{Token}
use Rattle.herm_syntax.specs.declared.modules.Module.{Module}
use Rattle.herm_syntax.specs.declared.modules.Module.TheVariants as modules
use Rattle.herm_syntax.specs.declared.statements.Stmt.{Stmt}
use Rattle.herm_syntax.specs.declared.statements.StmtForm.{StmtForm}
use Rattle.herm_syntax.specs.declared.statements.StmtForm.TheBlock as forms
use Rattle.herm_syntax.specs.StatementNumbers.{numbers_within, numbers, arms_numbers, port_arms_numbers, otherwise_numbers, body_numbers}
use Rattle.herm_syntax.specs.laws.GrammarLaws.{counting, IsNumbered}
use Rattle.herm_parser.specs.Along.{◌>>=◌, past_token, past_name, past_path, past_expression, past_each}
use Rattle.herm_parser.specs.Walk.{Walked, Moved, past_end, ended, past_pair, past_path_name, past_atoms, past_keyed, begins, stated, blocked, walk_form, walk_statements, walk_arms, walk_port_arms, walk_otherwise, walk_statement, walk_body}
use Rattle.herm_parser.specs.AlongDefinitions.{past_module, past_enclosed, past_field, past_variables}

-- These are the numbers from a first one on, and this is the next.
abbrev Runs : List ℕ → ℕ → ℕ → Type 0
Runs xs n next = (count : ℕ) × ((xs ≡ counting n count) × (next ≡ n + count))

counting-append : (n a b : ℕ) → counting n a ++ counting (n + a) b ≡ counting n (a + b)
counting-append n zero b =
    let on : n + 0 ≡ n = omega arith in
    let all : b ≡ 0 + b = omega arith in
    ap (λ m. counting m b) on ∙ ap (counting n) all
counting-append n (suc a) b =
    let on : n + suc a ≡ suc n + a = omega arith in
    let all : suc (a + b) ≡ suc a + b = omega arith in
    ap (λ m. n ∷ counting (suc n) a ++ counting m b) on ∙ (ap (λ xs. n ∷ xs) (counting-append (suc n) a b) ∙ ap (counting n) all)

runs_joined : (xs ys : List ℕ) (n m next : ℕ) → Runs xs n m → Runs ys m next → Runs (xs ++ ys) n next
runs_joined xs ys n m next a b =
    (a.0 + b.0, (ap (λ t. t ++ ys) a.1.0 ∙ (ap (λ t. counting n a.0 ++ t) (b.1.0 ∙ ap (λ k. counting k b.0) a.1.1) ∙ counting-append n a.0 b.0), omega (arith, a.1.1, b.1.1)))

runs_first : (xs : List ℕ) (x n next : ℕ) → x ≡ n → Runs xs (suc n) next → Runs (x ∷ xs) n next
runs_first xs x n next first a = (suc a.0, (ap (λ t. t ∷ xs) first ∙ ap (λ t. n ∷ t) a.1.0, omega (arith, a.1.1)))

-- Wherever a walk leads, it passed these numbers.
abbrev Passes : {X : Type 0} → List ℕ → ℕ → Option (ℕ × X) → Type 0
Passes xs n walked = (w : _) → walked ≡ Some w → Runs xs n w.0

passes_behind : {A X : Type 0} → (xs : List ℕ) (n : ℕ) (first : Option A) (f : A → Option (ℕ × X)) → ((a : A) → Passes xs n (f a)) → Passes xs n (first >>= f)
passes_behind xs n None f inner w e = absurd (cc)
passes_behind xs n (Some a) f inner w e = inner a w e

passes_both : {X Y : Type 0} → (xs ys : List ℕ) (n : ℕ) (first : Option (ℕ × X)) (f : ℕ × X → Option (ℕ × Y)) → Passes xs n first → ((v : ℕ × X) → Passes ys v.0 (f v)) → Passes (xs ++ ys) n (first >>= f)
passes_both xs ys n None f before behind w e = absurd (cc)
passes_both xs ys n (Some v) f before behind w e = runs_joined xs ys n v.0 w.0 (before v refl) (behind v w e)

passes_end : (n : ℕ) (tokens : List Token) → Passes [] n (past_end n tokens)
passes_end n [] w e = absurd (cc)
passes_end n (t ∷ tokens) w e =
    let here : (n, (t.span.end, tokens)) ≡ w = cc in
    (0, (refl, omega (arith, ap (λ v. v.0) here)))

passes_nothing : {X : Type 0} → (n : ℕ) (left : X) → Passes [] n (Some (n, left))
passes_nothing n left w e =
    let here : (n, left) ≡ w = cc in
    (0, (refl, omega (arith, ap (λ v. v.0) here)))

passes_ended : (n : ℕ) (past : Option (List Token)) → Passes [] n (ended n past)
passes_ended n None w e = absurd (cc)
passes_ended n (Some tokens) w e = passes_end n tokens w e

-- What stands behind a walk, and leaves the next number as it is.
passes_closed : {X : Type 0} → (xs : List ℕ) (n : ℕ) (first : Option (ℕ × X)) (left : ℕ × X → List Token) → Passes xs n first → Passes xs n (first >>= λ v. past_end v.0 (left v))
passes_closed xs n first left before =
    subst (λ ys. Passes ys n (first >>= λ v. past_end v.0 (left v))) (append-nil xs)
    (passes_both xs [] n first (λ v. past_end v.0 (left v)) before (λ v. passes_end v.0 (left v)))

passes_block : (xs : List ℕ) (inner : ℕ → List Token → Moved) (n : ℕ) (tokens : List Token) → ((rest : List Token) → Passes xs n (inner n rest)) → Passes xs n (blocked inner n tokens)
passes_block xs inner n tokens within =
    passes_behind xs n (past_token tokens) (λ a. inner n a >>= λ w. past_end w.0 w.1) (λ a. passes_closed xs n (inner n a) (λ w. w.1) (within a))

passes_counted : (xs : List ℕ) (number n : ℕ) (same matches : Bool) (v : ℕ × (ℕ × List Token)) → (same ≡ true → number ≡ n) → Runs xs (suc n) v.0 → Passes (number ∷ xs) n (if same && matches then Some (v.0, v.1.1) else None)
passes_counted xs number n true true v first inner w e =
    let here : (v.0, v.1.1) ≡ w = cc in
    subst (Runs (number ∷ xs) n) (ap (λ u. u.0) here) (runs_first xs number n v.0 (first refl) inner)
passes_counted xs number n true false v first inner w e = absurd (cc)
passes_counted xs number n false matches v first inner w e = absurd (cc)

passes_stated : (xs : List ℕ) (number : StmtNo) (span : Span) (n : ℕ) (tokens : List Token) (walked : Walked) → Passes xs (suc n) walked → Passes (number.0 ∷ xs) n (stated number span n tokens walked)
passes_stated xs number span n tokens None inner w e = absurd (cc)
passes_stated xs number span n tokens (Some v) inner w e = passes_counted xs number.0 n (number.0 == n) (begins span tokens && span.end == v.1.0) v (eqb-true number.0 n) (inner v refl) w e

mutual
  form_passes : (form : StmtForm) (n : ℕ) (tokens : List Token) → Passes (numbers_within form) n (walk_form form n tokens)
  form_passes (forms.Assign x e) n tokens = passes_ended n (past_path x tokens >>= λ a. past_token a >>= λ b. past_expression e b)
  form_passes (forms.Move y x) n tokens = passes_ended n (past_token tokens >>= λ a. past_pair y x a)
  form_passes (forms.New x) n tokens = passes_ended n (past_token tokens >>= λ a. past_path x a)
  form_passes (forms.Discard x) n tokens = passes_ended n (past_token tokens >>= λ a. past_path x a)
  form_passes (forms.Unite v y) n tokens = passes_ended n (past_token tokens >>= λ a. past_pair v y a)
  form_passes (forms.Dissolve v y) n tokens = passes_ended n (past_token tokens >>= λ a. past_pair v y a)
  form_passes (forms.Reveal v) n tokens = passes_ended n (past_token tokens >>= λ a. past_path v a)
  form_passes (forms.Wrap y p) n tokens = passes_ended n (past_token tokens >>= λ a. past_pair y p a)
  form_passes (forms.Unwrap p name y) n tokens = passes_ended n (past_token tokens >>= λ a. past_path_name p name a >>= λ b. past_token b >>= λ c. past_path y c)
  form_passes (forms.Insert r t) n tokens = passes_ended n (past_token tokens >>= λ a. past_pair r t a)
  form_passes (forms.Remove r t keys) n tokens = passes_ended n (past_token tokens >>= λ a. past_keyed r t keys.items a)
  form_passes (forms.Get r t keys) n tokens = passes_ended n (past_token tokens >>= λ a. past_keyed r t keys.items a)
  form_passes (forms.Connect o i) n tokens = passes_ended n (past_token tokens >>= λ a. past_pair o i a)
  form_passes (forms.Send x o) n tokens = passes_ended n (past_token tokens >>= λ a. past_pair x o a)
  form_passes (forms.Receive x i) n tokens = passes_ended n (past_token tokens >>= λ a. past_pair x i a)
  form_passes (forms.Call o arguments) n tokens = passes_ended n (past_token tokens >>= λ a. past_path o a >>= λ b. past_atoms arguments.items b)
  form_passes (forms.Return m) n tokens = passes_ended n (past_token tokens >>= λ a. past_path m a)
  form_passes (forms.ReturnBy m name) n tokens = passes_ended n (past_token tokens >>= λ a. past_path_name m name a)
  form_passes (forms.Create o name) n tokens = passes_ended n (past_token tokens >>= λ a. past_path_name o name a)
  form_passes (forms.Raise name) n tokens = passes_ended n (past_token tokens >>= λ a. past_name name a)
  form_passes forms.Leave n tokens = passes_ended n (past_token tokens)
  form_passes (forms.Case' v shape arms) n tokens =
      passes_behind (arms_numbers arms) n (past_token tokens) (λ a. past_path v a >>= λ b. past_token b >>= λ c. walk_arms arms (n, (0, c)) >>= λ w. past_end w.0 w.1.1)
      (λ a. passes_behind (arms_numbers arms) n (past_path v a) (λ b. past_token b >>= λ c. walk_arms arms (n, (0, c)) >>= λ w. past_end w.0 w.1.1)
      (λ b. passes_behind (arms_numbers arms) n (past_token b) (λ c. walk_arms arms (n, (0, c)) >>= λ w. past_end w.0 w.1.1)
      (λ c. passes_closed (arms_numbers arms) n (walk_arms arms (n, (0, c))) (λ w. w.1.1) (arms_pass arms (n, (0, c))))))
  form_passes (forms.Select' shape arms) n tokens =
      passes_behind (port_arms_numbers arms) n (past_token tokens) (λ a. past_token a >>= λ b. walk_port_arms arms (n, (0, b)) >>= λ w. past_end w.0 w.1.1)
      (λ a. passes_behind (port_arms_numbers arms) n (past_token a) (λ b. walk_port_arms arms (n, (0, b)) >>= λ w. past_end w.0 w.1.1)
      (λ b. passes_closed (port_arms_numbers arms) n (walk_port_arms arms (n, (0, b))) (λ w. w.1.1) (port_arms_pass arms (n, (0, b)))))
  form_passes (forms.For' r t shape body) n tokens =
      passes_behind (numbers body) n (past_token tokens) (λ a. past_pair r t a >>= λ b. blocked (λ m c. walk_statements body m c) n b)
      (λ a. passes_behind (numbers body) n (past_pair r t a) (λ b. blocked (λ m c. walk_statements body m c) n b) (λ b. passes_block (numbers body) (λ m c. walk_statements body m c) n b (statements_pass body n)))
  form_passes (forms.While' e shape body) n tokens =
      passes_behind (numbers body) n (past_token tokens) (λ a. past_expression e a >>= λ b. blocked (λ m c. walk_statements body m c) n b)
      (λ a. passes_behind (numbers body) n (past_expression e a) (λ b. blocked (λ m c. walk_statements body m c) n b) (λ b. passes_block (numbers body) (λ m c. walk_statements body m c) n b (statements_pass body n)))
  form_passes (forms.If' e shape body other) n tokens =
      passes_behind (numbers body ++ otherwise_numbers other) n (past_token tokens) (λ a. past_expression e a >>= λ b. blocked (λ m c. walk_statements body m c) n b >>= λ w. walk_otherwise other w)
      (λ a. passes_behind (numbers body ++ otherwise_numbers other) n (past_expression e a) (λ b. blocked (λ m c. walk_statements body m c) n b >>= λ w. walk_otherwise other w)
      (λ b. passes_both (numbers body) (otherwise_numbers other) n (blocked (λ m c. walk_statements body m c) n b) (λ w. walk_otherwise other w) (passes_block (numbers body) (λ m c. walk_statements body m c) n b (statements_pass body n)) (otherwise_passes other)))
  form_passes (forms.Try' shape body shape_of_handlers handled) n tokens =
      passes_behind (numbers body ++ arms_numbers handled) n (past_token tokens) (λ a. blocked (λ m c. walk_statements body m c) n a >>= λ w. walk_arms handled w)
      (λ a. passes_both (numbers body) (arms_numbers handled) n (blocked (λ m c. walk_statements body m c) n a) (λ w. walk_arms handled w) (passes_block (numbers body) (λ m c. walk_statements body m c) n a (statements_pass body n)) (arms_pass handled))

  statements_pass : {m : _} (body : forms.Row_of-Stmt m) (n : ℕ) (tokens : List Token) → Passes (numbers body) n (walk_statements body n tokens)
  statements_pass forms.end_of-Stmt n tokens = passes_nothing n tokens
  statements_pass (forms.more_of-Stmt number span form others) n tokens =
      passes_both (number.0 ∷ numbers_within form) (numbers others) n (stated number span n tokens (walk_form form (suc n) tokens)) (λ w. walk_statements others w.0 w.1)
      (passes_stated (numbers_within form) number span n tokens (walk_form form (suc n) tokens) (form_passes form (suc n) tokens)) (λ w. statements_pass others w.0 w.1)

  arms_pass : {m : _} (arms : forms.Row_of-StmtForm-Case-1-3 m) (w : ℕ × (ℕ × List Token)) → Passes (arms_numbers arms) w.0 (walk_arms arms w)
  arms_pass forms.end_of-StmtForm-Case-1-3 w = passes_nothing w.0 w.1
  arms_pass (forms.more_of-StmtForm-Case-1-3 name shape body others) w =
      passes_both (numbers body) (arms_numbers others) w.0 (past_token w.1.1 >>= λ a. past_name name a >>= λ b. blocked (λ m c. walk_statements body m c) w.0 b) (λ v. walk_arms others v)
      (passes_behind (numbers body) w.0 (past_token w.1.1) (λ a. past_name name a >>= λ b. blocked (λ m c. walk_statements body m c) w.0 b)
      (λ a. passes_behind (numbers body) w.0 (past_name name a) (λ b. blocked (λ m c. walk_statements body m c) w.0 b) (λ b. passes_block (numbers body) (λ m c. walk_statements body m c) w.0 b (statements_pass body w.0)))) (arms_pass others)

  port_arms_pass : {m : _} (arms : forms.Row_of-StmtForm-Select-0-4 m) (w : ℕ × (ℕ × List Token)) → Passes (port_arms_numbers arms) w.0 (walk_port_arms arms w)
  port_arms_pass forms.end_of-StmtForm-Select-0-4 w = passes_nothing w.0 w.1
  port_arms_pass (forms.more_of-StmtForm-Select-0-4 port target shape body others) w =
      passes_both (numbers body) (port_arms_numbers others) w.0 (past_token w.1.1 >>= λ a. past_pair port target a >>= λ b. blocked (λ m c. walk_statements body m c) w.0 b) (λ v. walk_port_arms others v)
      (passes_behind (numbers body) w.0 (past_token w.1.1) (λ a. past_pair port target a >>= λ b. blocked (λ m c. walk_statements body m c) w.0 b)
      (λ a. passes_behind (numbers body) w.0 (past_pair port target a) (λ b. blocked (λ m c. walk_statements body m c) w.0 b) (λ b. passes_block (numbers body) (λ m c. walk_statements body m c) w.0 b (statements_pass body w.0)))) (port_arms_pass others)

  otherwise_passes : (other : forms.Held-StmtForm-If-2) (w : ℕ × (ℕ × List Token)) → Passes (otherwise_numbers other) w.0 (walk_otherwise other w)
  otherwise_passes forms.None' w = passes_nothing w.0 w.1
  otherwise_passes (forms.Some' shape body) w =
      passes_behind (numbers body) w.0 (past_token w.1.1) (λ a. blocked (λ m c. walk_statements body m c) w.0 a) (λ b. passes_block (numbers body) (λ m c. walk_statements body m c) w.0 b (statements_pass body w.0))

body_passes : (body : List Stmt) (n : ℕ) (tokens : List Token) → Passes (body_numbers body) n (walk_body body n tokens)
body_passes [] n tokens = passes_nothing n tokens
body_passes (s ∷ others) n tokens =
    passes_both (s.no.0 ∷ numbers_within s.form) (body_numbers others) n (walk_statement s n tokens) (λ w. walk_body others w.0 w.1)
    (passes_stated (numbers_within s.form) s.no s.span n tokens (walk_form s.form (suc n) tokens) (form_passes s.form (suc n) tokens)) (λ w. body_passes others w.0 w.1)

-- Something is known of what leads on wherever all of it leads on.
leads : {A B : Type 0} → (P : Type 0) (first : Option A) (f : A → Option B) (b : B) → (first >>= f) ≡ Some b → ((a : A) → first ≡ Some a → f a ≡ Some b → P) → P
leads P None f b e known = absurd (cc)
leads P (Some a) f b e known = known a refl e

module_numbered : (m : Module) (tokens rest : List Token) → past_module m tokens ≡ Some rest → IsNumbered m
module_numbered (modules.Definitions name list) tokens rest e = (0, refl)
module_numbered (modules.Process name port vars body) tokens rest e =
    let m = modules.Process name port vars body in
    let inside : List Token → Option (List Token) = λ d. past_variables vars.items d >>= λ t. walk_body body.items 1 t >>= λ w. Some w.1 in
    leads (IsNumbered m) (past_token tokens) (λ a. past_name name a >>= λ b. past_enclosed (past_field port) b >>= past_enclosed inside) rest e
    (λ a of_a e_a. leads (IsNumbered m) (past_name name a) (λ b. past_enclosed (past_field port) b >>= past_enclosed inside) rest e_a
    (λ b of_b e_b. leads (IsNumbered m) (past_enclosed (past_field port) b) (past_enclosed inside) rest e_b
    (λ c of_c e_c. leads (IsNumbered m) (past_token c) (λ d. inside d >>= past_token) rest e_c
    (λ d of_d e_d. leads (IsNumbered m) (inside d) past_token rest e_d
    (λ t of_t e_t. leads (IsNumbered m) (past_variables vars.items d) (λ u. walk_body body.items 1 u >>= λ w. Some w.1) t of_t
    (λ u of_u e_u. leads (IsNumbered m) (walk_body body.items 1 u) (λ w. Some w.1) t e_u
    (λ w of_w e_w. let runs = body_passes body.items 1 u w of_w in (runs.0, runs.1.0))))))))

pub file_numbered : (list : List Module) (tokens rest : List Token) → past_each past_module list tokens ≡ Some rest → AllByRecursion IsNumbered list
file_numbered [] tokens rest e = tt
file_numbered (m ∷ list) tokens rest e =
    leads (AllByRecursion IsNumbered (m ∷ list)) (past_module m tokens) (past_each past_module list) rest e (λ a here there. (module_numbered m tokens a here, file_numbered list a rest there))
