-- The state of a process, its next thing, its local step, what it wants and what an answer leaves.
use Rattle.std.specs.Prelude.{ℕ, pred, List, [], ◌∷◌, cond, Option, Some, None, option_map, option_and_then, slice_get, length}
use Rattle.herm_model.specs.Nodes.{Node}
use Rattle.herm_model.specs.Targets.{Target, node, end, end_by}
use Rattle.herm_model.specs.Values.{Cell, gaps, part}
use Rattle.herm_journal.specs.Actions.{to_hear}
use Rattle.herm_forms.specs.Frames.{Name, Frame, Completion, goes, stays, stuck, counted_step, counted_action}
use Rattle.herm_forms.specs.ClosesAndAnswers
use Rattle.herm_journal.specs.Messages.{CellWant, CellAction}
use Rattle.herm_forms.specs.EdgeFinalising.{arrive}
use Rattle.herm_forms.specs.Modules.{Module}
use Rattle.herm_forms.specs.Acts.{is_action, leads_to, settle_reply, act, settle, wants}

-- names as they are
abbrev pub own_name : Name → Name
own_name n = n

-- The state of a process: the number of its module, its point and its body. Language reference, "Processes".
pub record State (N : Type 0) : Type 0 where
  pub module_number : ℕ
  pub point : Target
  pub frame : Frame N

-- A process begins with its port in variable 0 and nothing else, as behind an edge to where its body begins. So the
-- port goes to the work list where it is not kept there. Language reference, "Processes".
abbrev pub begin : {N : Type 0} → Module → (code number : ℕ) → Cell N → State N
begin c code number port = record {
  module_number = code;
  point = c.entry;
  frame = arrive c c.entry (record {
    number = number;
    variables = part port (gaps (pred (length c.variables)));
    loops = [];
    work = [];
    call = None;
    calls = 0;
    steps = 0;
    actions = 0;
    serial = 0;
    finalised = [];
  });
}

-- What comes next: the front of the work list, with what is behind it; the answer of the open call, at its
-- statement; the statement at the point; or nothing, at an end. Language reference, "Processes".
pub data Next (N : Type 0) : Type 0 where
  an_item : Cell N → List (Cell N) → Next N
  a_reply : (call : ℕ) → Node → Next N
  a_statement : Node → Next N
  nothing : Next N

abbrev pub node_at : Module → Target → Option Node
node_at c (node i) = slice_get c.nodes i
node_at c end = None
node_at c (end_by e) = None

abbrev pub call_or_statement : {N : Type 0} → Option ℕ → Option Node → Next N
call_or_statement call None = nothing
call_or_statement None (Some n) = a_statement n
call_or_statement (Some k) (Some n) = a_reply k n

abbrev pub item_or : {N : Type 0} → List (Cell N) → Next N → Next N
item_or [] next = next
item_or (item ∷ work) next = an_item item work

abbrev pub next_of : {N : Type 0} → Module → State N → Next N
next_of c s = item_or s.frame.work (call_or_statement s.frame.call (node_at c s.point))

-- the state behind a result; none where it is stuck
abbrev pub state_after : {N : Type 0} → Module → State N → Option Node → Completion N → Option (State N)
state_after c s n (goes o b) =
    option_map (λ t. record { module_number = s.module_number; point = t; frame = arrive c t b }) (option_and_then (λ n. leads_to c n o) n)
state_after c s n (stays b) = Some (record s { frame = b })
state_after c s n stuck = None

-- What the next thing wants of a place; none where it is a local step or nothing. Language reference, "Actions".
abbrev pub wanted_next : {N : Type 0} → (Name → N) → Module → Frame N → Next N → Option (CellWant N)
wanted_next name c b (an_item item work) = ClosesAndAnswers.work_wants item
wanted_next name c b (a_reply call n) = Some to_hear
wanted_next name c b (a_statement n) = cond (is_action c n.form) (wants name c n.form b) None
wanted_next name c b nothing = None

abbrev pub wanted : {N : Type 0} → (Name → N) → Module → State N → Option (CellWant N)
wanted name c s = wanted_next name c s.frame (next_of c s)

-- A statement's count of steps rises first, and what it does applies to the body with the new count. None where the
-- next thing is no local step, or where it is stuck. Language reference, "Processes".
abbrev pub step_next : {N : Type 0} → (Name → N) → Module → State N → Next N → Option (State N)
step_next name c s (a_statement n) =
    cond (is_action c n.form) None (state_after c s (Some n) (act name c n.number n.form (counted_step s.frame)))
step_next name c s _ = None

abbrev pub local_step : {N : Type 0} → (Name → N) → Module → State N → Option (State N)
local_step name c s = step_next name c s (next_of c s)

-- What the answer to the next thing leaves, which was done at the place of this number. An action counts; a
-- statement's counts as a step too. Language reference, "Actions".
abbrev pub settle_next : {N : Type 0} → (Name → N) → Module → State N → (at : ℕ) → CellAction N → Next N → Option (State N)
settle_next name c s at action (an_item item work) =
    state_after c s None (ClosesAndAnswers.work_done item action (counted_action (record (s.frame) { work = work })))
settle_next name c s at action (a_reply call n) =
    state_after c s (Some n) (settle_reply c n.form call action (counted_action s.frame))
settle_next name c s at action (a_statement n) =
    state_after c s (Some n) (settle name c n.form at action (counted_action (counted_step s.frame)))
settle_next name c s at action nothing = None

abbrev pub answered : {N : Type 0} → (Name → N) → Module → State N → (at : ℕ) → CellAction N → Option (State N)
answered name c s at action = settle_next name c s at action (next_of c s)
