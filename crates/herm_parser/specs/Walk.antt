-- Statements go along tokens: each name has its token's place, each statement begins at its first token, ends at its
-- last and has the next number, one in a block a greater one than what holds it (language reference, "Places of names and
-- statements", "Numbers of statements").
use Rattle.std.specs.Prelude.{ℕ, suc, Bool, false, ◌==◌, ◌&&◌, if◌then◌else◌, List, [], ◌∷◌, Option, Some, None}
use Rattle.std.specs.Prelude.{Vec}
use Rattle.std.specs.Global.{Global}
use Rattle.herm_base.specs.declared.numbers.StmtNo.{StmtNo}
use Rattle.herm_base.specs.declared.word.Span.{Span}
use Rattle.herm_base.specs.declared.word.Name.{Name}
use Rattle.herm_alphabet.specs.declared.token.Token.{Token}
use Rattle.herm_syntax.specs.declared.expressions.Atom.{Atom}
use Rattle.herm_syntax.specs.declared.expressions.PathForm.{PathForm}
use Rattle.herm_syntax.specs.declared.statements.Stmt.{Stmt}
use Rattle.herm_syntax.specs.declared.statements.StmtForm.{StmtForm}
use Rattle.herm_syntax.specs.declared.statements.StmtForm.TheBlock as forms
use Rattle.herm_parser.specs.Along.{◌>>=◌, past_token, past_name, past_list, past_path, past_atom, past_expression}

-- Where going along a statement leads: the number of the next statement, the end of the last token, the tokens left.
abbrev pub Walked : Type 0
Walked = Option (ℕ × (ℕ × List Token))

-- The last token of a statement.
abbrev pub past_end : ℕ → List Token → Walked
past_end n [] = None
past_end n (t ∷ tokens) = Some (n, (t.span.end, tokens))

abbrev pub ended : ℕ → Option (List Token) → Walked
ended n None = None
ended n (Some tokens) = past_end n tokens

-- Two paths with a keyword between, two names with a path before, atoms in brackets.
abbrev pub past_pair : PathForm → PathForm → List Token → Option (List Token)
past_pair y x tokens = past_path y tokens >>= λ a. past_token a >>= λ b. past_path x b

abbrev pub past_path_name : PathForm → Name → List Token → Option (List Token)
past_path_name x name tokens = past_path x tokens >>= λ a. past_token a >>= λ b. past_name name b

abbrev pub past_atoms : List Atom → List Token → Option (List Token)
past_atoms atoms tokens = past_token tokens >>= λ a. past_list past_atom atoms a >>= λ b. past_token b

abbrev pub past_keyed : PathForm → PathForm → List Atom → List Token → Option (List Token)
past_keyed row table keys tokens = past_pair row table tokens >>= λ a. past_atoms keys a

-- Where going along statements leads: the number of the next statement, and the tokens left.
abbrev pub Moved : Type 0
Moved = Option (ℕ × List Token)

-- A statement has the next number, begins at its first token and ends at its last.
abbrev pub begins : Span → List Token → Bool
begins span [] = false
begins span (t ∷ tokens) = span.start == t.span.start

abbrev pub stated : StmtNo → Span → ℕ → List Token → Walked → Moved
stated number span n tokens walked = walked >>= λ w. if number.0 == n && (begins span tokens && span.end == w.1.0) then Some (w.0, w.1.1) else None

-- A block: `{`, statements, `}`.
abbrev pub blocked : (ℕ → List Token → Moved) → ℕ → List Token → Walked
blocked inner n tokens = past_token tokens >>= λ a. inner n a >>= λ w. past_end w.0 w.1

abbrev mutual
  pub walk_form : StmtForm → ℕ → List Token → Walked
  walk_form (forms.Assign x e) n tokens = ended n (past_path x tokens >>= λ a. past_token a >>= λ b. past_expression e b)
  walk_form (forms.Move y x) n tokens = ended n (past_token tokens >>= λ a. past_pair y x a)
  walk_form (forms.New x) n tokens = ended n (past_token tokens >>= λ a. past_path x a)
  walk_form (forms.Discard x) n tokens = ended n (past_token tokens >>= λ a. past_path x a)
  walk_form (forms.Unite v y) n tokens = ended n (past_token tokens >>= λ a. past_pair v y a)
  walk_form (forms.Dissolve v y) n tokens = ended n (past_token tokens >>= λ a. past_pair v y a)
  walk_form (forms.Reveal v) n tokens = ended n (past_token tokens >>= λ a. past_path v a)
  walk_form (forms.Case' v shape arms) n tokens =
      past_token tokens >>= λ a. past_path v a >>= λ b. past_token b >>= λ c. walk_arms arms (n, (0, c)) >>= λ w. past_end w.0 w.1.1
  walk_form (forms.Wrap y p) n tokens = ended n (past_token tokens >>= λ a. past_pair y p a)
  walk_form (forms.Unwrap p name y) n tokens = ended n (past_token tokens >>= λ a. past_path_name p name a >>= λ b. past_token b >>= λ c. past_path y c)
  walk_form (forms.Insert r t) n tokens = ended n (past_token tokens >>= λ a. past_pair r t a)
  walk_form (forms.Remove r t keys) n tokens = ended n (past_token tokens >>= λ a. past_keyed r t keys.items a)
  walk_form (forms.Get r t keys) n tokens = ended n (past_token tokens >>= λ a. past_keyed r t keys.items a)
  walk_form (forms.For' r t shape body) n tokens = past_token tokens >>= λ a. past_pair r t a >>= λ b. blocked (λ m c. walk_statements body m c) n b
  walk_form (forms.Connect o i) n tokens = ended n (past_token tokens >>= λ a. past_pair o i a)
  walk_form (forms.Send x o) n tokens = ended n (past_token tokens >>= λ a. past_pair x o a)
  walk_form (forms.Receive x i) n tokens = ended n (past_token tokens >>= λ a. past_pair x i a)
  walk_form (forms.Select' shape arms) n tokens = past_token tokens >>= λ a. past_token a >>= λ b. walk_port_arms arms (n, (0, b)) >>= λ w. past_end w.0 w.1.1
  walk_form (forms.Call o arguments) n tokens = ended n (past_token tokens >>= λ a. past_path o a >>= λ b. past_atoms arguments.items b)
  walk_form (forms.Return m) n tokens = ended n (past_token tokens >>= λ a. past_path m a)
  walk_form (forms.ReturnBy m name) n tokens = ended n (past_token tokens >>= λ a. past_path_name m name a)
  walk_form (forms.Create o name) n tokens = ended n (past_token tokens >>= λ a. past_path_name o name a)
  walk_form (forms.If' e shape body other) n tokens = past_token tokens >>= λ a. past_expression e a >>= λ b. blocked (λ m c. walk_statements body m c) n b >>= λ w. walk_otherwise other w
  walk_form (forms.While' e shape body) n tokens = past_token tokens >>= λ a. past_expression e a >>= λ b. blocked (λ m c. walk_statements body m c) n b
  walk_form (forms.Raise name) n tokens = ended n (past_token tokens >>= λ a. past_name name a)
  walk_form forms.Leave n tokens = ended n (past_token tokens)
  walk_form (forms.Try' shape body shape_of_handlers handled) n tokens = past_token tokens >>= λ a. blocked (λ m c. walk_statements body m c) n a >>= λ w. walk_arms handled w

  pub walk_statements : {m : _} → forms.Row_of-Stmt m → ℕ → List Token → Moved
  walk_statements forms.end_of-Stmt n tokens = Some (n, tokens)
  walk_statements (forms.more_of-Stmt number span form others) n tokens = stated number span n tokens (walk_form form (suc n) tokens) >>= λ w. walk_statements others w.0 w.1

  -- Arms of a case and handlers: a keyword, a name and a block each.
  pub walk_arms : {m : _} → forms.Row_of-StmtForm-Case-1-3 m → ℕ × (ℕ × List Token) → Walked
  walk_arms forms.end_of-StmtForm-Case-1-3 w = Some w
  walk_arms (forms.more_of-StmtForm-Case-1-3 name shape body others) w =
      (past_token w.1.1 >>= λ a. past_name name a >>= λ b. blocked (λ m c. walk_statements body m c) w.0 b) >>= λ v. walk_arms others v

  pub walk_port_arms : {m : _} → forms.Row_of-StmtForm-Select-0-4 m → ℕ × (ℕ × List Token) → Walked
  walk_port_arms forms.end_of-StmtForm-Select-0-4 w = Some w
  walk_port_arms (forms.more_of-StmtForm-Select-0-4 port target shape body others) w =
      (past_token w.1.1 >>= λ a. past_pair port target a >>= λ b. blocked (λ m c. walk_statements body m c) w.0 b) >>= λ v. walk_port_arms others v

  pub walk_otherwise : forms.Held-StmtForm-If-2 → ℕ × (ℕ × List Token) → Walked
  walk_otherwise forms.None' w = Some w
  walk_otherwise (forms.Some' shape body) w = past_token w.1.1 >>= λ a. blocked (λ m c. walk_statements body m c) w.0 a

-- A statement, and those of a block or of a process.
abbrev pub walk_statement : Stmt → ℕ → List Token → Moved
walk_statement s n tokens = stated s.no s.span n tokens (walk_form s.form (suc n) tokens)

abbrev pub walk_body : List Stmt → ℕ → List Token → Moved
walk_body [] n tokens = Some (n, tokens)
walk_body (s ∷ others) n tokens = walk_statement s n tokens >>= λ w. walk_body others w.0 w.1

-- Arms one after the other, each behind the end of the one before.
abbrev pub walk_each : {X : Type 0} → (X → ℕ × (ℕ × List Token) → Walked) → List X → ℕ × (ℕ × List Token) → Walked
walk_each walk [] w = Some w
walk_each walk (x ∷ others) w = walk x w >>= λ v. walk_each walk others v

-- An arm of a case or a handler, an arm of a select, and what stands behind `else`.
abbrev pub walk_arm : Name × Vec Stmt Global → ℕ × (ℕ × List Token) → Walked
walk_arm a w = past_token w.1.1 >>= λ b. past_name a.0 b >>= λ c. blocked (walk_body a.1.items) w.0 c

abbrev pub walk_port_arm : PathForm × PathForm × Vec Stmt Global → ℕ × (ℕ × List Token) → Walked
walk_port_arm a w = past_token w.1.1 >>= λ b. past_pair a.0 a.1 b >>= λ c. blocked (walk_body a.2.items) w.0 c

abbrev pub walk_else : Option (Vec Stmt Global) → ℕ × (ℕ × List Token) → Walked
walk_else None w = Some w
walk_else (Some body) w = past_token w.1.1 >>= λ a. blocked (walk_body body.items) w.0 a
