-- The readers of statements, and where the reading of one ends: language reference, "Grammar".
use Rattle.std.specs.Prelude.{ℕ, zero, suc, Bool, true, not, ◌&&◌, ◌⊎◌, if◌then◌else◌, List, [], ◌∷◌, Option, None}
use mathlib.Core.Logic.{inl, inr}
use Rattle.herm_readers.specs.Reader.{Reader, Rule, ahead}
use Rattle.herm_readers.specs.Combinators.{passes, nothing, one, mapped, and_then, sequence, preceded, terminated, choice, many, separated}
use Rattle.herm_syntax.specs.Symbols.{Symbol, is, paren_open, paren_close, brace_open, brace_close, bracket_open, bracket_close, comma, semicolon, becomes}
use Rattle.herm_syntax.specs.KeywordSymbols.{kw_as, kw_call, kw_case, kw_create, kw_else, kw_exception, kw_for, kw_from, kw_if, kw_in, kw_into, kw_leave, kw_of, kw_on, kw_raise, kw_receive, kw_return, kw_select, kw_try, kw_unwrap, kw_when, kw_while}
use Rattle.herm_syntax.specs.Trees.{Letters, Path, Atom, Expression, Move, Unite, Dissolve, Wrap, Insert, Connect, Send, Receive, New, Discard, Reveal, Remove, Get, Statement, Assign, Unwrap, Call, Return, ReturnBy, Create, Raise, Leave, Case, For, Select, If, While, Try, Statements, NoStatement, Further, Arms, NoArm, Arm, PortArms, NoPortArm, PortArm, Otherwise, NoElse, Else}
use Rattle.herm_syntax.specs.Spelling.{statement, statements}
use Rattle.herm_syntax.specs.Fitting.{statement_fits, statements_fit}
use Rattle.herm_syntax.specs.ReadExpressions.{read_name, read_part, read_path, read_atom, read_expression}
use Rattle.herm_syntax.specs.Words.{Transfer, Touch, Find, two_paths, one_path, keyed, between, pick_transfer, pick_touch, pick_find, is_transfer, is_touch, is_find, read_first_path, read_touched}

-- A `;` at the end, and what stands in braces.
abbrev pub read_end : Reader Symbol (Unit {0})
read_end = preceded (is semicolon) nothing

abbrev pub in_braces : {A : Type 0} → Reader Symbol A → Reader Symbol A
in_braces read = preceded (is brace_open) (terminated (is brace_close) read)

-- Items with commas, none where the closing sign stands at once.
abbrev pub listed_of : {A : Type 0} → Unit {0} ⊎ List A → List A
listed_of (inl none) = []
listed_of (inr items) = items

abbrev pub listed : {A : Type 0} → Symbol → Reader Symbol A → Reader Symbol (List A)
listed close item = mapped listed_of (choice (is close) nothing (separated (is comma) item))

-- The statements without statements in them.
abbrev pub read_two_paths : Reader Symbol (Transfer × (Path × Path))
read_two_paths = and_then (one pick_transfer) (λ t. sequence (read_first_path t) (preceded (is (between t)) (terminated (is semicolon) read_path)))

abbrev pub read_one_path : Reader Symbol (Touch × Path)
read_one_path = and_then (one pick_touch) (λ t. terminated (is semicolon) (read_touched t))

abbrev pub read_keyed : Reader Symbol (Find × (Path × (Path × (List Atom × Unit {0}))))
read_keyed = sequence (one pick_find) (sequence read_path (preceded (is kw_from) (sequence read_path
    (preceded (is bracket_open) (sequence (separated (is comma) read_atom) (preceded (is bracket_close) read_end))))))

abbrev pub read_unwrap : Reader Symbol (Path × (Letters × Path))
read_unwrap = preceded (is kw_unwrap) (sequence read_path (preceded (is kw_as) (sequence read_name (preceded (is kw_into) (terminated (is semicolon) read_path)))))

abbrev pub read_call : Reader Symbol (Path × (List Atom × Unit {0}))
read_call = preceded (is kw_call) (sequence read_path (preceded (is paren_open) (sequence (listed paren_close read_atom) (preceded (is paren_close) read_end))))

abbrev pub read_return : Reader Symbol (Path × (Letters ⊎ Unit {0}))
read_return = preceded (is kw_return) (sequence read_path (choice (is kw_exception) (preceded (is kw_exception) (terminated (is semicolon) read_name)) read_end))

abbrev pub read_create : Reader Symbol (Path × Letters)
read_create = preceded (is kw_create) (sequence read_path (preceded (is kw_of) (terminated (is semicolon) read_name)))

abbrev pub read_raise : Reader Symbol Letters
read_raise = preceded (is kw_raise) (terminated (is semicolon) read_name)

abbrev pub read_leave : Reader Symbol (Unit {0})
read_leave = preceded (is kw_leave) read_end

abbrev pub read_assign : Reader Symbol Expression → Reader Symbol (Path × Expression)
read_assign read = sequence read_path (preceded (is becomes) (terminated (is semicolon) read))

-- The arms of a case, of a select and of a try: one and further ones, each led by its keyword.
abbrev pub read_case_arm : Reader Symbol Statements → Reader Symbol (Letters × Statements)
read_case_arm read = preceded (is kw_when) (sequence read_part (in_braces read))

abbrev pub read_handler : Reader Symbol Statements → Reader Symbol (Letters × Statements)
read_handler read = preceded (is kw_on) (sequence read_name (in_braces read))

abbrev pub read_port_arm : Reader Symbol Statements → Reader Symbol (Path × (Path × Statements))
read_port_arm read = preceded (is kw_when) (sequence read_path (preceded (is kw_receive) (sequence read_path (in_braces read))))

abbrev pub arms_of : List (Letters × Statements) → Arms
arms_of [] = NoArm
arms_of (found ∷ others) = Arm found.0 found.1 (arms_of others)

abbrev pub some_arms_of : (Letters × Statements) × List (Letters × Statements) → Arms
some_arms_of found = arms_of (found.0 ∷ found.1)

abbrev pub port_arms_of : List (Path × (Path × Statements)) → PortArms
port_arms_of [] = NoPortArm
port_arms_of (found ∷ others) = PortArm found.0 found.1.0 found.1.1 (port_arms_of others)

abbrev pub some_port_arms_of : (Path × (Path × Statements)) × List (Path × (Path × Statements)) → PortArms
some_port_arms_of found = port_arms_of (found.0 ∷ found.1)

abbrev pub read_case_arms : Reader Symbol Statements → Reader Symbol Arms
read_case_arms read = mapped some_arms_of (sequence (read_case_arm read) (many (is kw_when) (read_case_arm read)))

abbrev pub read_handlers : Reader Symbol Statements → Reader Symbol Arms
read_handlers read = mapped some_arms_of (sequence (read_handler read) (many (is kw_on) (read_handler read)))

abbrev pub read_port_arms : Reader Symbol Statements → Reader Symbol PortArms
read_port_arms read = mapped some_port_arms_of (sequence (read_port_arm read) (many (is kw_when) (read_port_arm read)))

abbrev pub otherwise_of : Statements ⊎ Unit {0} → Otherwise
otherwise_of (inl body) = Else body
otherwise_of (inr none) = NoElse

abbrev pub read_otherwise : Reader Symbol Statements → Reader Symbol Otherwise
read_otherwise read = mapped otherwise_of (choice (is kw_else) (preceded (is kw_else) (in_braces read)) nothing)

-- The statements with statements in them.
abbrev pub read_case : Reader Symbol Statements → Reader Symbol (Path × Arms)
read_case read = preceded (is kw_case) (sequence read_path (in_braces (read_case_arms read)))

abbrev pub read_for : Reader Symbol Statements → Reader Symbol (Path × (Path × Statements))
read_for read = preceded (is kw_for) (sequence read_path (preceded (is kw_in) (sequence read_path (in_braces read))))

abbrev pub read_select : Reader Symbol Statements → Reader Symbol PortArms
read_select read = preceded (is kw_select) (in_braces (read_port_arms read))

abbrev pub read_if : Reader Symbol Expression → Reader Symbol Statements → Reader Symbol (Expression × (Statements × Otherwise))
read_if read_expression read = preceded (is kw_if) (sequence read_expression (preceded (is brace_open) (sequence read (preceded (is brace_close) (read_otherwise read)))))

abbrev pub read_while : Reader Symbol Expression → Reader Symbol Statements → Reader Symbol (Expression × Statements)
read_while read_expression read = preceded (is kw_while) (sequence read_expression (in_braces read))

abbrev pub read_try : Reader Symbol Statements → Reader Symbol (Statements × Arms)
read_try read = preceded (is kw_try) (preceded (is brace_open) (sequence read (preceded (is brace_close) (read_handlers read))))

-- A statement, by its first symbol. What begins with no keyword of these is an assignment.
abbrev pub PlainStatement : Type 0
PlainStatement = (Transfer × (Path × Path)) ⊎ ((Touch × Path) ⊎ ((Find × (Path × (Path × (List Atom × Unit {0})))) ⊎ ((Path × (Letters × Path)) ⊎ ((Path × (List Atom × Unit {0})) ⊎
    ((Path × (Letters ⊎ Unit {0})) ⊎ ((Path × Letters) ⊎ (Letters ⊎ Unit {0})))))))

abbrev pub CompoundStatement : Type 0
CompoundStatement = (Path × Arms) ⊎ ((Path × (Path × Statements)) ⊎ (PortArms ⊎ ((Expression × (Statements × Otherwise)) ⊎ ((Expression × Statements) ⊎ ((Statements × Arms) ⊎ (Path × Expression))))))

abbrev pub return_of : Path → Letters ⊎ Unit {0} → Statement
return_of m (inl name) = ReturnBy m name
return_of m (inr none) = Return m

abbrev pub plain_of : PlainStatement → Statement
plain_of (inl x) = two_paths x.0 x.1.0 x.1.1
plain_of (inr (inl x)) = one_path x.0 x.1
plain_of (inr (inr (inl x))) = keyed x.0 x.1.0 x.1.1.0 x.1.1.1.0
plain_of (inr (inr (inr (inl x)))) = Unwrap x.0 x.1.0 x.1.1
plain_of (inr (inr (inr (inr (inl x))))) = Call x.0 x.1.0
plain_of (inr (inr (inr (inr (inr (inl x)))))) = return_of x.0 x.1
plain_of (inr (inr (inr (inr (inr (inr (inl x))))))) = Create x.0 x.1
plain_of (inr (inr (inr (inr (inr (inr (inr (inl name)))))))) = Raise name
plain_of (inr (inr (inr (inr (inr (inr (inr (inr none)))))))) = Leave

abbrev pub compound_of : CompoundStatement → Statement
compound_of (inl x) = Case x.0 x.1
compound_of (inr (inl x)) = For x.0 x.1.0 x.1.1
compound_of (inr (inr (inl x))) = Select x
compound_of (inr (inr (inr (inl x)))) = If x.0 x.1.0 x.1.1
compound_of (inr (inr (inr (inr (inl x))))) = While x.0 x.1
compound_of (inr (inr (inr (inr (inr (inl x)))))) = Try x.0 x.1
compound_of (inr (inr (inr (inr (inr (inr x)))))) = Assign x.0 x.1

abbrev pub is_plain : Symbol → Bool
is_plain x =
    if is_transfer x then true else
    if is_touch x then true else
    if is_find x then true else
    if is kw_unwrap x then true else
    if is kw_call x then true else
    if is kw_return x then true else
    if is kw_create x then true else
    if is kw_raise x then true else is kw_leave x

abbrev pub read_plain : Reader Symbol PlainStatement
read_plain = choice is_transfer read_two_paths (choice is_touch read_one_path (choice is_find read_keyed (choice (is kw_unwrap) read_unwrap (choice (is kw_call) read_call
    (choice (is kw_return) read_return (choice (is kw_create) read_create (choice (is kw_raise) read_raise read_leave)))))))

abbrev pub read_compound : Reader Symbol Expression → Reader Symbol Statements → Reader Symbol CompoundStatement
read_compound read_expression read = choice (is kw_case) (read_case read) (choice (is kw_for) (read_for read) (choice (is kw_select) (read_select read)
    (choice (is kw_if) (read_if read_expression read) (choice (is kw_while) (read_while read_expression read) (choice (is kw_try) (read_try read) (read_assign read_expression))))))

abbrev pub statement_of : PlainStatement ⊎ CompoundStatement → Statement
statement_of (inl x) = plain_of x
statement_of (inr x) = compound_of x

abbrev pub read_statement : Reader Symbol Expression → Reader Symbol Statements → Reader Symbol Statement
read_statement read_expression read = mapped statement_of (choice is_plain read_plain (read_compound read_expression read))

-- Statements up to the brace that closes their block. At depth 0 there are none.
abbrev pub inside : Symbol → Bool
inside x = not (is brace_close x)

abbrev pub statements_of : List Statement → Statements
statements_of [] = NoStatement
statements_of (s ∷ others) = Further s (statements_of others)

abbrev pub no_statement : Unit {0} → Statements
no_statement none = NoStatement

abbrev pub read_statements : ℕ → Reader Symbol Statements
read_statements zero = mapped no_statement nothing
read_statements (suc depth) = mapped statements_of (many inside (read_statement (read_expression depth) (read_statements depth)))

-- Where the reading of a statement ends: an `else` goes on behind an `if` without one, and an `on` behind a `try`.
abbrev pub if_ends : Otherwise → Option Symbol → Bool
if_ends NoElse beyond = not (passes (is kw_else) beyond)
if_ends (Else body) beyond = true

abbrev pub statement_ends : Statement → Option Symbol → Bool
statement_ends (Assign x e) beyond = true
statement_ends (Move y x) beyond = true
statement_ends (Unite v y) beyond = true
statement_ends (Dissolve v y) beyond = true
statement_ends (Wrap y p) beyond = true
statement_ends (Insert r t) beyond = true
statement_ends (Connect o i) beyond = true
statement_ends (Send x o) beyond = true
statement_ends (Receive x i) beyond = true
statement_ends (New x) beyond = true
statement_ends (Discard x) beyond = true
statement_ends (Reveal v) beyond = true
statement_ends (Remove r t keys) beyond = true
statement_ends (Get r t keys) beyond = true
statement_ends (Unwrap p name y) beyond = true
statement_ends (Call o arguments) beyond = true
statement_ends (Return m) beyond = true
statement_ends (ReturnBy m name) beyond = true
statement_ends (Create o name) beyond = true
statement_ends (Raise name) beyond = true
statement_ends Leave beyond = true
statement_ends (Case v arms) beyond = true
statement_ends (For r t body) beyond = true
statement_ends (Select arms) beyond = true
statement_ends (If e body other) beyond = if_ends other beyond
statement_ends (While e body) beyond = true
statement_ends (Try body handled) beyond = not (passes (is kw_on) beyond)

abbrev pub further_end : Statements → Option Symbol → Bool
further_end NoStatement beyond = not (passes inside beyond)
further_end (Further s others) beyond = passes inside (ahead (statement s) None) && (statement_ends s (ahead (statements others) beyond) && further_end others beyond)

abbrev pub statements_end : ℕ → Statements → Option Symbol → Bool
statements_end zero body beyond = true
statements_end (suc depth) body beyond = further_end body beyond

abbrev pub statement_rule : ℕ → Rule Symbol Statement
statement_rule depth = record { fits = λ s. statement_fits s depth; spelling = statement; ends = statement_ends }

abbrev pub statements_rule : ℕ → Rule Symbol Statements
statements_rule depth = record { fits = λ body. statements_fit body depth; spelling = statements; ends = statements_end depth }
