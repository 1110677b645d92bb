-- The statement table at one statement of each form: what it needs, and at each of its outcomes, in order, what it makes
-- and what it takes away.
use Rattle.std.specs.Prelude.{◌≡◌, ℕ, true, pos, List, [], ◌∷◌, ◌++◌, map}
use Rattle.herm_model.specs.Paths.{Path, Fact, init, case}
use Rattle.herm_model.specs.Types.{TypeTable, predefined, fields, cases, rows, inport, outport, callmessage, by_in, by_inout, by_out}
use Rattle.herm_model.specs.Expressions.{literal, copy, size_of, operation, plus, equal, boolean, integer, Atom, path}
use Rattle.herm_model.specs.Statements.{Form, Assign, Move, New, Discard, Unite, Dissolve, Reveal, Case, Wrap, Unwrap, Insert, Remove, Get, For, Connect, Send, Receive, Select, Call, Return, ReturnBy, Create, If, While, Raise, Leave}
use Rattle.herm_model.specs.Outcomes.{Outcome, ok, is_true, is_false, turn, done, component, arm, raised, outcomes, overflow, depletion, case_error, polymorph_mismatch, duplicate_key, not_found, disconnected}
use Rattle.herm_model.specs.FactsOfStatements.{needs, makes, kills}

--   8 pair = record { n: integer, s: string }           13 ask = callmessage (in k: integer, inout p: pair, out s: string)
--   9 either = variant { p: pair, n: integer }               raises (e7 { full(p) }, e8)
--   10 holder = record { v: either, n: integer }        14 ask_in = inport of ask
--   11 pair_in = inport of pair { init(n) }             15 ask_out = outport of ask_in
--   12 pair_out = outport of pair_in                    16 pairs = table of pair key (n)
abbrev pub types : TypeTable
types = predefined
    ++ fields (1 ∷ 2 ∷ [])
    ∷ cases (8 ∷ 1 ∷ [])
    ∷ fields (9 ∷ 1 ∷ [])
    ∷ inport 8 (init (0 ∷ 0 ∷ []) ∷ [])
    ∷ outport 11
    ∷ callmessage (record { mode = by_in; content = 1 } ∷ record { mode = by_inout; content = 8 } ∷ record { mode = by_out; content = 2 } ∷ []) (record { exception = 7; kept = 1 ∷ [] } ∷ record { exception = 8; kept = [] } ∷ [])
    ∷ inport 13 []
    ∷ outport 14
    ∷ rows 8 (0 ∷ [])
    ∷ []

-- start: main_start, h: holder, x: pair, i: pair_in, o: pair_out, c: ask_out, m: ask, t: pairs, k: integer, p: polymorph
abbrev pub variables : List ℕ
variables = 7 ∷ 10 ∷ 8 ∷ 11 ∷ 12 ∷ 15 ∷ 13 ∷ 16 ∷ 1 ∷ 3 ∷ []

abbrev pub h : Path
h = 1 ∷ []

abbrev pub h_v : Path
h_v = 1 ∷ 0 ∷ []

abbrev pub h_n : Path
h_n = 1 ∷ 1 ∷ []

abbrev pub x : Path
x = 2 ∷ []

abbrev pub x_n : Path
x_n = 2 ∷ 0 ∷ []

abbrev pub x_s : Path
x_s = 2 ∷ 1 ∷ []

abbrev pub i : Path
i = 3 ∷ []

abbrev pub o : Path
o = 4 ∷ []

abbrev pub c : Path
c = 5 ∷ []

abbrev pub m : Path
m = 6 ∷ []

abbrev pub t : Path
t = 7 ∷ []

abbrev pub k : Path
k = 8 ∷ []

abbrev pub p : Path
p = 9 ∷ []

-- x with its fields
abbrev pub full_x : List Fact
full_x = init x ∷ init x_n ∷ init x_s ∷ []

-- what an outcome makes and takes away
abbrev pub Effect : Type 0
Effect = Outcome × List Fact × List Path

abbrev pub effects : Form → List Effect
effects form = map (λ o. (o, makes types variables form o, kills types variables form o)) (outcomes types variables form)

-- a form needs these facts and has these outcomes with their effects
abbrev pub IsRow : Form → List Fact → List Effect → Type 0
IsRow form needed expected = (needs types variables form ≡ needed) × (effects form ≡ expected)

-- an outcome that changes no fact
abbrev pub same : Outcome → Effect
same o = (o, [], [])

-- h.n := x.n + k;
abbrev pub AssignRow : Type 0
AssignRow = IsRow (Assign h_n (operation plus (copy x_n) (copy k)))
    (init h ∷ init x ∷ init x_n ∷ init k ∷ [])
    ((ok, init h ∷ init h_n ∷ [], h_n ∷ []) ∷ same (raised overflow) ∷ [])

-- k := h.v.p.n; reads through a component
abbrev pub ComponentRow : Type 0
ComponentRow = IsRow (Assign k (copy (1 ∷ 0 ∷ 0 ∷ 0 ∷ [])))
    (init h ∷ init h_v ∷ case h_v 0 ∷ [])
    ((ok, init k ∷ [], k ∷ []) ∷ [])

-- move x to h.v; (of whatever type)
abbrev pub MoveRow : Type 0
MoveRow = IsRow (Move x h_v) (init h ∷ full_x) ((ok, init h ∷ init h_v ∷ [], x ∷ h_v ∷ []) ∷ [])

-- move m to k; (of whatever type) a full callmessage has its `in` and `inout` parameters
abbrev pub MessageRow : Type 0
MessageRow = IsRow (Move m k)
    (init m ∷ init (6 ∷ 0 ∷ []) ∷ init (6 ∷ 1 ∷ []) ∷ init (6 ∷ 1 ∷ 0 ∷ []) ∷ init (6 ∷ 1 ∷ 1 ∷ []) ∷ [])
    ((ok, init k ∷ [], m ∷ k ∷ []) ∷ [])

-- new x; new i;
abbrev pub NewRow : Type 0
NewRow = IsRow (New x) [] ((ok, init x ∷ [], x ∷ []) ∷ [])

abbrev pub NewPortRow : Type 0
NewPortRow = IsRow (New i) [] ((ok, init i ∷ [], i ∷ []) ∷ same (raised depletion) ∷ [])

-- discard h.v;
abbrev pub DiscardRow : Type 0
DiscardRow = IsRow (Discard h_v) (init h ∷ init h_v ∷ []) ((ok, [], h_v ∷ []) ∷ [])

-- unite h.v.p from x;
abbrev pub UniteRow : Type 0
UniteRow = IsRow (Unite h_v 0 x) (init h ∷ full_x) ((ok, init h ∷ init h_v ∷ case h_v 0 ∷ [], x ∷ h_v ∷ []) ∷ [])

-- dissolve h.v.p into x;
abbrev pub DissolveRow : Type 0
DissolveRow = IsRow (Dissolve h_v 0 x) (init h ∷ init h_v ∷ case h_v 0 ∷ []) ((ok, full_x, h_v ∷ x ∷ []) ∷ [])

-- reveal h.v.n;
abbrev pub RevealRow : Type 0
RevealRow = IsRow (Reveal h_v 1) (init h ∷ init h_v ∷ []) ((ok, init h ∷ init h_v ∷ case h_v 1 ∷ [], []) ∷ same (raised case_error) ∷ [])

-- case h.v { when n { .. } when p { .. } }
abbrev pub CaseRow : Type 0
CaseRow = IsRow (Case h_v (1 ∷ 0 ∷ [])) (init h ∷ init h_v ∷ [])
    ((component 1, init h ∷ init h_v ∷ case h_v 1 ∷ [], []) ∷ (component 0, init h ∷ init h_v ∷ case h_v 0 ∷ [], []) ∷ [])

-- wrap x as p; unwrap p as pair into x;
abbrev pub WrapRow : Type 0
WrapRow = IsRow (Wrap x p) full_x ((ok, init p ∷ [], x ∷ p ∷ []) ∷ same (raised depletion) ∷ [])

abbrev pub UnwrapRow : Type 0
UnwrapRow = IsRow (Unwrap p 8 x) (init p ∷ []) ((ok, full_x, p ∷ x ∷ []) ∷ same (raised polymorph_mismatch) ∷ [])

-- insert x into t; remove x from t[k]; get x from t[1]; for x in t { .. }
abbrev pub InsertRow : Type 0
InsertRow = IsRow (Insert x t) (full_x ++ init t ∷ []) ((ok, [], x ∷ []) ∷ same (raised depletion) ∷ same (raised duplicate_key) ∷ [])

abbrev pub RemoveRow : Type 0
RemoveRow = IsRow (Remove x t (path k ∷ [])) (init t ∷ init k ∷ []) ((ok, full_x, x ∷ []) ∷ same (raised not_found) ∷ [])

abbrev pub GetRow : Type 0
GetRow = IsRow (Get x t (Atom.literal (integer (pos 1)) ∷ [])) (init t ∷ []) ((ok, full_x, x ∷ []) ∷ same (raised not_found) ∷ [])

abbrev pub ForRow : Type 0
ForRow = IsRow (For x t) (init t ∷ []) ((turn, full_x, x ∷ []) ∷ same done ∷ [])

-- connect o to i; create c of ..;
abbrev pub ConnectRow : Type 0
ConnectRow = IsRow (Connect o i) (init i ∷ []) ((ok, init o ∷ [], o ∷ []) ∷ [])

abbrev pub CreateRow : Type 0
CreateRow = IsRow (Create c 0) [] ((ok, init c ∷ [], c ∷ []) ∷ same (raised depletion) ∷ [])

-- send x to o; receive x from i; both at the declared facts
abbrev pub SendRow : Type 0
SendRow = IsRow (Send x o) (init x ∷ init x_n ∷ init o ∷ []) ((ok, [], x ∷ []) ∷ (raised disconnected, init x ∷ init x_n ∷ [], x ∷ []) ∷ [])

abbrev pub ReceiveRow : Type 0
ReceiveRow = IsRow (Receive x i) (init i ∷ []) ((ok, init x ∷ init x_n ∷ [], x ∷ []) ∷ [])

-- select { when start receive h.v { .. } when i receive x { .. } }: the parents of all targets, and then the ports
abbrev pub SelectRow : Type 0
SelectRow = IsRow (Select (record { target = h_v; port = 0 ∷ [] } ∷ record { target = x; port = i } ∷ []))
    (init h ∷ init (0 ∷ []) ∷ init i ∷ [])
    ((arm 0, init h ∷ init h_v ∷ init (1 ∷ 0 ∷ 0 ∷ []) ∷ init (1 ∷ 0 ∷ 1 ∷ []) ∷ [], h_v ∷ []) ∷ (arm 1, init x ∷ init x_n ∷ [], x ∷ []) ∷ [])

-- call c (k, x, h.n);
abbrev pub CallRow : Type 0
CallRow = IsRow (Call c (path k ∷ path x ∷ path h_n ∷ []))
    (init h ∷ init c ∷ init k ∷ full_x)
    ((ok, full_x ++ init h ∷ init h_n ∷ [], x ∷ h_n ∷ [])
    ∷ (raised disconnected, [], x ∷ h_n ∷ [])
    ∷ (raised 7, full_x, x ∷ h_n ∷ [])
    ∷ (raised 8, [], x ∷ h_n ∷ [])
    ∷ [])

-- return m; return m exception e7; return m exception e8;
abbrev pub ReturnRow : Type 0
ReturnRow = IsRow (Return m)
    (init m ∷ init (6 ∷ 1 ∷ []) ∷ init (6 ∷ 1 ∷ 0 ∷ []) ∷ init (6 ∷ 1 ∷ 1 ∷ []) ∷ init (6 ∷ 2 ∷ []) ∷ [])
    ((ok, [], m ∷ []) ∷ [])

abbrev pub ReturnByRow : Type 0
ReturnByRow = IsRow (ReturnBy m 7)
    (init m ∷ init (6 ∷ 1 ∷ []) ∷ init (6 ∷ 1 ∷ 0 ∷ []) ∷ init (6 ∷ 1 ∷ 1 ∷ []) ∷ [])
    ((ok, [], m ∷ []) ∷ [])

abbrev pub ReturnByNothingRow : Type 0
ReturnByNothingRow = IsRow (ReturnBy m 8) (init m ∷ []) ((ok, [], m ∷ []) ∷ [])

-- if size(t) = k { .. } while true { .. } raise e7; leave;
abbrev pub IfRow : Type 0
IfRow = IsRow (If (operation equal (size_of t) (copy k))) (init t ∷ init k ∷ []) (same is_true ∷ same is_false ∷ [])

abbrev pub WhileRow : Type 0
WhileRow = IsRow (While (literal (boolean true))) [] (same is_true ∷ same is_false ∷ [])

abbrev pub RaiseRow : Type 0
RaiseRow = IsRow (Raise 7) [] (same (raised 7) ∷ [])

abbrev pub LeaveRow : Type 0
LeaveRow = IsRow Leave [] (same ok ∷ [])
