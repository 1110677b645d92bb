-- The first symbol of a statement, and where statements stop.
use Rattle.std.proofs.Common.{◌≡◌, ◌≢◌, ℕ, zero, suc, Bool, true, false, not, ◌&&◌, ◌||◌, append-nil, List, [], ◌∷◌, ◌++◌, Option, Some, None, true≢false, refl, sym, ap, ◌∙◌}
use Rattle.std.proofs.lemmas.Bool.{and_parts, and_from}
use Rattle.herm_readers.specs.Reader.{ahead}
use Rattle.herm_readers.specs.Combinators.{passes}
use Rattle.herm_syntax.specs.Symbols.{Symbol, Identifier, is, brace_close, comma}
use Rattle.herm_syntax.specs.KeywordSymbols.{kw_call, kw_case, kw_create, kw_else, kw_for, kw_if, kw_leave, kw_on, kw_raise, kw_return, kw_select, kw_try, kw_unwrap, kw_var, kw_while, kw_move, kw_unite, kw_dissolve, kw_wrap, kw_insert, kw_connect, kw_send, kw_receive, kw_new, kw_discard, kw_reveal, kw_remove, kw_get}
use Rattle.herm_syntax.specs.Trees.{Path, Move, Unite, Dissolve, Wrap, Insert, Connect, Send, Receive, New, Discard, Reveal, Remove, Get, Statement, Assign, Unwrap, Call, Return, ReturnBy, Create, Raise, Leave, Case, For, Select, If, While, Try, Statements, NoStatement, Further, Otherwise, NoElse, Else}
use Rattle.herm_syntax.specs.Spelling.{statement, statements}
use Rattle.herm_syntax.specs.Fitting.{statement_fits, statements_fit}
use Rattle.herm_syntax.specs.ReadStatements.{inside, if_ends, statement_ends, further_end, statements_end}

abbrev pub first_of_path : Path → Symbol
first_of_path [] = comma
first_of_path (variable ∷ parts) = Identifier variable

abbrev pub first_of : Statement → Symbol
first_of (Assign x e) = first_of_path x
first_of (Move y x) = kw_move
first_of (Unite v y) = kw_unite
first_of (Dissolve v y) = kw_dissolve
first_of (Wrap y p) = kw_wrap
first_of (Insert r t) = kw_insert
first_of (Connect o i) = kw_connect
first_of (Send x o) = kw_send
first_of (Receive x i) = kw_receive
first_of (New x) = kw_new
first_of (Discard x) = kw_discard
first_of (Reveal v) = kw_reveal
first_of (Remove r t keys) = kw_remove
first_of (Get r t keys) = kw_get
first_of (Unwrap p name y) = kw_unwrap
first_of (Call o arguments) = kw_call
first_of (Return m) = kw_return
first_of (ReturnBy m name) = kw_return
first_of (Create o name) = kw_create
first_of (Raise name) = kw_raise
first_of Leave = kw_leave
first_of (Case v arms) = kw_case
first_of (For r t body) = kw_for
first_of (Select arms) = kw_select
first_of (If e body other) = kw_if
first_of (While e body) = kw_while
first_of (Try body handled) = kw_try

pub statement_first : (s : Statement) (levels : ℕ) (more : List Symbol) (beyond : Option Symbol) → statement_fits s levels ≡ true → ahead (statement s ++ more) beyond ≡ Some (first_of s)
statement_first (Assign [] e) levels more beyond f = absurd (cc)
statement_first (Assign (variable ∷ parts) e) levels more beyond f = refl
statement_first (Move y x) levels more beyond g = refl
statement_first (Unite v y) levels more beyond g = refl
statement_first (Dissolve v y) levels more beyond g = refl
statement_first (Wrap y p) levels more beyond g = refl
statement_first (Insert r t) levels more beyond g = refl
statement_first (Connect o i) levels more beyond g = refl
statement_first (Send x o) levels more beyond g = refl
statement_first (Receive x i) levels more beyond g = refl
statement_first (New x) levels more beyond g = refl
statement_first (Discard x) levels more beyond g = refl
statement_first (Reveal v) levels more beyond g = refl
statement_first (Remove r t keys) levels more beyond g = refl
statement_first (Get r t keys) levels more beyond g = refl
statement_first (Unwrap p name y) levels more beyond g = refl
statement_first (Call o arguments) levels more beyond g = refl
statement_first (Return m) levels more beyond g = refl
statement_first (ReturnBy m name) levels more beyond g = refl
statement_first (Create o name) levels more beyond g = refl
statement_first (Raise name) levels more beyond g = refl
statement_first Leave levels more beyond g = refl
statement_first (Case v arms) levels more beyond g = refl
statement_first (For r t body) levels more beyond g = refl
statement_first (Select arms) levels more beyond g = refl
statement_first (If e body other) levels more beyond g = refl
statement_first (While e body) levels more beyond g = refl
statement_first (Try body handled) levels more beyond g = refl

-- No statement begins with what closes a block or goes on behind one.
abbrev pub goes_on : Symbol → Bool
goes_on x = is brace_close x || (is kw_else x || (is kw_on x || is kw_var x))

pub first_begins : (s : Statement) → goes_on (first_of s) ≡ false
first_begins (Assign [] e) = refl
first_begins (Assign (variable ∷ parts) e) = refl
first_begins (Move first second) = refl
first_begins (Unite first second) = refl
first_begins (Dissolve first second) = refl
first_begins (Wrap first second) = refl
first_begins (Insert first second) = refl
first_begins (Connect first second) = refl
first_begins (Send first second) = refl
first_begins (Receive first second) = refl
first_begins (New p) = refl
first_begins (Discard p) = refl
first_begins (Reveal p) = refl
first_begins (Remove r q keys) = refl
first_begins (Get r q keys) = refl
first_begins (Unwrap p name y) = refl
first_begins (Call o arguments) = refl
first_begins (Return m) = refl
first_begins (ReturnBy m name) = refl
first_begins (Create o name) = refl
first_begins (Raise name) = refl
first_begins Leave = refl
first_begins (Case v arms) = refl
first_begins (For r t body) = refl
first_begins (Select arms) = refl
first_begins (If e body other) = refl
first_begins (While e body) = refl
first_begins (Try body handled) = refl

pub or_parts : (a b : Bool) → (a || b) ≡ false → (a ≡ false) × (b ≡ false)
or_parts true b e = absurd (cc)
or_parts false b e = (refl, e)

abbrev pub goes_on_ahead : Option Symbol → Bool
goes_on_ahead beyond = passes (is kw_else) beyond || (passes (is kw_on) beyond || passes (is kw_var) beyond)

pub first_leads : (s : Statement) (levels : ℕ) (more : List Symbol) (beyond : Option Symbol) → statement_fits s levels ≡ true →
    (passes inside (ahead (statement s ++ more) beyond) ≡ true) × (goes_on_ahead (ahead (statement s ++ more) beyond) ≡ false)
first_leads s levels more beyond f =
    let first = statement_first s levels more beyond f in
    let apart = or_parts (is brace_close (first_of s)) (is kw_else (first_of s) || (is kw_on (first_of s) || is kw_var (first_of s))) (first_begins s) in
    (ap (passes inside) first ∙ ap not apart.0, ap goes_on_ahead first ∙ apart.1)

pub statement_leads : (s : Statement) (levels : ℕ) → statement_fits s levels ≡ true → passes inside (ahead (statement s) None) ≡ true
statement_leads s levels f = ap (λ t. passes inside (ahead t None)) (sym (append-nil (statement s))) ∙ (first_leads s levels [] None f).0

pub statement_written : (s : Statement) (levels : ℕ) → statement_fits s levels ≡ true → statement s ≢ []
statement_written s levels f e = true≢false (sym (statement_leads s levels f) ∙ ap (λ t. passes inside (ahead t None)) e)

pub if_stops : (other : Otherwise) (beyond : Option Symbol) → passes (is kw_else) beyond ≡ false → if_ends other beyond ≡ true
if_stops NoElse beyond e = ap not e
if_stops (Else body) beyond e = refl

pub statement_stops : (s : Statement) (beyond : Option Symbol) → goes_on_ahead beyond ≡ false → statement_ends s beyond ≡ true
statement_stops (Assign x e) beyond g = refl
statement_stops (Move y x) beyond g = refl
statement_stops (Unite v y) beyond g = refl
statement_stops (Dissolve v y) beyond g = refl
statement_stops (Wrap y p) beyond g = refl
statement_stops (Insert r t) beyond g = refl
statement_stops (Connect o i) beyond g = refl
statement_stops (Send x o) beyond g = refl
statement_stops (Receive x i) beyond g = refl
statement_stops (New x) beyond g = refl
statement_stops (Discard x) beyond g = refl
statement_stops (Reveal v) beyond g = refl
statement_stops (Remove r t keys) beyond g = refl
statement_stops (Get r t keys) beyond g = refl
statement_stops (Unwrap p name y) beyond g = refl
statement_stops (Call o arguments) beyond g = refl
statement_stops (Return m) beyond g = refl
statement_stops (ReturnBy m name) beyond g = refl
statement_stops (Create o name) beyond g = refl
statement_stops (Raise name) beyond g = refl
statement_stops Leave beyond g = refl
statement_stops (Case v arms) beyond g = refl
statement_stops (For r t body) beyond g = refl
statement_stops (Select arms) beyond g = refl
statement_stops (If e body other) beyond g = if_stops other beyond (or_parts (passes (is kw_else) beyond) (passes (is kw_on) beyond || passes (is kw_var) beyond) g).0
statement_stops (While e body) beyond g = refl
statement_stops (Try body handled) beyond g = ap not (or_parts (passes (is kw_on) beyond) (passes (is kw_var) beyond) (or_parts (passes (is kw_else) beyond) (passes (is kw_on) beyond || passes (is kw_var) beyond) g).1).0

pub next_statement : (others : Statements) (levels : ℕ) → statements_fit others levels ≡ true → goes_on_ahead (ahead (statements others) (Some brace_close)) ≡ false
next_statement NoStatement levels f = refl
next_statement (Further s others) zero f = absurd (cc)
next_statement (Further s others) (suc levels) f =
    let fit = and_parts (statement_fits s levels) (statements_fit others (suc levels)) f in
    (first_leads s levels (statements others) (Some brace_close) fit.0).1

pub no_variables : (body : Statements) (levels : ℕ) → statements_fit body levels ≡ true → passes (is kw_var) (ahead (statements body) (Some brace_close)) ≡ false
no_variables body levels f =
    let beyond = ahead (statements body) (Some brace_close) in
    (or_parts (passes (is kw_on) beyond) (passes (is kw_var) beyond) (or_parts (passes (is kw_else) beyond) (passes (is kw_on) beyond || passes (is kw_var) beyond) (next_statement body levels f)).1).1

pub further_stop : (body : Statements) (levels : ℕ) → statements_fit body (suc levels) ≡ true → further_end body (Some brace_close) ≡ true
further_stop NoStatement levels f = refl
further_stop (Further s others) levels f =
    let fit = and_parts (statement_fits s levels) (statements_fit others (suc levels)) f in
    and_from (passes inside (ahead (statement s) None)) (statement_ends s (ahead (statements others) (Some brace_close)) && further_end others (Some brace_close)) (statement_leads s levels fit.0)
    (and_from (statement_ends s (ahead (statements others) (Some brace_close))) (further_end others (Some brace_close))
    (statement_stops s (ahead (statements others) (Some brace_close)) (next_statement others (suc levels) fit.1)) (further_stop others levels fit.1))

-- The statements of a block end in front of its closing brace.
pub statements_stop : (body : Statements) (levels : ℕ) → statements_fit body levels ≡ true → statements_end levels body (Some brace_close) ≡ true
statements_stop body zero f = refl
statements_stop body (suc levels) f = further_stop body levels f
