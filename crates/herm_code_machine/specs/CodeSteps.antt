-- The next thing of a process of code, its local step, what it wants and what an answer leaves.
use Rattle.std.specs.Prelude.{ℕ, List, [], ◌∷◌, Bool, true, false, cond, nat_lt, Option, Some, None, option_and_then}
use Rattle.herm_model.specs.Values.{Cell, Value}
use Rattle.herm_journal.specs.Actions.{to_hear}
use Rattle.herm_journal.specs.Messages.{CellWant, CellAction}
use Rattle.herm_forms.specs.Frames.{Name, Frame, Completion, goes, stays, stuck, counted_step, counted_action}
use Rattle.herm_forms.specs.ClosesAndAnswers
use Rattle.herm_system.specs.Machines.{Standing, ended, out_of_steps, local, to_act, greatest_actions}
use Rattle.herm_instructions.specs.Instructions.{Instruction}
use Rattle.herm_instructions.specs.Images.{instruction_at}
use Rattle.herm_code_machine.specs.ReadyCode.{ReadyCode}
use Rattle.herm_code_machine.specs.CodeActions.{code_wants, code_settles, code_hears}
use Rattle.herm_code_machine.specs.CodeStates.{Position, at_index, at_end, at_end_by, CodeState, state_behind, to_next_piece}
use Rattle.herm_code_machine.specs.Pieces.{Piece, Met, piece_at, action_of, stack_before_action}

-- What comes next: the front of the work list, with what is behind it; the answer of the open call, at its instruction; a
-- piece with an action, or one without, from the index behind its step; or nothing, at an end. Code reference, "Processes".
pub data CodeNext (N : Type 0) : Type 0 where
  an_item : Cell N → List (Cell N) → CodeNext N
  a_reply : (call index : ℕ) → Instruction → CodeNext N
  an_action : Piece → Met → CodeNext N
  a_local_piece : Piece → CodeNext N
  nothing : CodeNext N

-- the instruction at a position, with its index
abbrev pub met_at : ReadyCode → Position → Option Met
met_at c (at_index i) = elim (instruction_at c.code i) [ None ↦ None | Some instruction ↦ Some (record { index = i; instruction = instruction }) ]
met_at c at_end = None
met_at c (at_end_by e) = None

abbrev pub by_action : {N : Type 0} → Piece → Option Met → CodeNext N
by_action p None = a_local_piece p
by_action p (Some m) = an_action p m

abbrev pub by_piece : {N : Type 0} → ReadyCode → Option Piece → CodeNext N
by_piece c None = nothing
by_piece c (Some p) = by_action p (action_of c p)

abbrev pub by_met : {N : Type 0} → (call : ℕ) → Option Met → CodeNext N
by_met call None = nothing
by_met call (Some m) = a_reply call m.index m.instruction

abbrev pub call_or_piece : {N : Type 0} → ReadyCode → Position → (call : Option ℕ) → CodeNext N
call_or_piece c p None = by_piece c (piece_at c p)
call_or_piece c p (Some call) = by_met call (met_at c p)

abbrev pub item_or : {N : Type 0} → List (Cell N) → CodeNext N → CodeNext N
item_or [] next = next
item_or (item ∷ work) next = an_item item work

abbrev pub code_next : {N : Type 0} → ReadyCode → CodeState N → CodeNext N
code_next c s = item_or s.frame.work (call_or_piece c s.position s.frame.call)

-- a step that begins a piece counts
abbrev pub counted_if : {N : Type 0} → Bool → Frame N → Frame N
counted_if true b = counted_step b
counted_if false b = b

-- What the next thing wants of a place; none where it is a local step or nothing. Code reference, "Pieces".
abbrev pub wanted_next : {N : Type 0} → (Name → N) → ReadyCode → CodeState N → CodeNext N → Option (CellWant N)
wanted_next name c s (an_item item work) = ClosesAndAnswers.work_wants item
wanted_next name c s (a_reply call i instruction) = Some to_hear
wanted_next name c s (an_action p m) = option_and_then (λ stack. code_wants name c m.instruction stack s.frame) (stack_before_action c p s.frame.variables s.stack)
wanted_next name c s (a_local_piece p) = None
wanted_next name c s nothing = None

abbrev pub code_wanted : {N : Type 0} → (Name → N) → ReadyCode → CodeState N → Option (CellWant N)
code_wanted name c s = wanted_next name c s (code_next c s)

-- A local step is a piece without an action: its step is counted, and then its instructions are done.
-- Code reference, "Pieces".
abbrev pub step_next : {N : Type 0} → (Name → N) → ReadyCode → CodeState N → CodeNext N → Option (CodeState N)
step_next name c s (a_local_piece p) = to_next_piece name c (record { module_number = s.module_number; position = at_index p.first; stack = s.stack; frame = counted_if p.has_step s.frame })
step_next name c s _ = None

abbrev pub code_local_step : {N : Type 0} → (Name → N) → ReadyCode → CodeState N → Option (CodeState N)
code_local_step name c s = step_next name c s (code_next c s)

-- on to the next piece from what the action at an index comes to
abbrev pub settled : {N : Type 0} → (Name → N) → ReadyCode → CodeState N → (index : ℕ) → Instruction → List Value → Completion N → Option (CodeState N)
settled name c s i instruction stack r = option_and_then (to_next_piece name c) (state_behind c s i instruction stack r)

-- what the answer to an action leaves, from the stack before it
abbrev pub settled_action : {N : Type 0} → (Name → N) → ReadyCode → CodeState N → Piece → Met → (at : ℕ) → CellAction N → List Value → Option (CodeState N)
settled_action name c s p m at action stack =
    let e = code_settles name c m.instruction stack at action (counted_action (counted_if p.has_step s.frame)) in settled name c s m.index m.instruction e.stack e.completion

-- what was done with the front of the work list
abbrev pub worked : {N : Type 0} → CodeState N → Completion N → Option (CodeState N)
worked s (stays b) = Some (record s { frame = b })
worked s (goes o b) = None
worked s stuck = None

-- What the answer to the next thing leaves, which was done at the place of this number: an action counts, and the step of its
-- piece; the instructions behind it are done up to the next piece. Code reference, "Pieces".
abbrev pub settle_next : {N : Type 0} → (Name → N) → ReadyCode → CodeState N → (at : ℕ) → CellAction N → CodeNext N → Option (CodeState N)
settle_next name c s at action (an_item item work) = worked s (ClosesAndAnswers.work_done item action (counted_action (record (s.frame) { work = work })))
settle_next name c s at action (a_reply call i instruction) = settled name c s i instruction s.stack (code_hears instruction call action (counted_action s.frame))
settle_next name c s at action (an_action p m) = option_and_then (settled_action name c s p m at action) (stack_before_action c p s.frame.variables s.stack)
settle_next name c s at action (a_local_piece p) = None
settle_next name c s at action nothing = None

abbrev pub code_answered : {N : Type 0} → (Name → N) → ReadyCode → CodeState N → (at : ℕ) → CellAction N → Option (CodeState N)
code_answered name c s at action = settle_next name c s at action (code_next c s)

-- How a process stands under a limit of steps, without a look at the places. Where the next thing is a step and an action the
-- limit of steps is looked at first. Code reference, "Processes".
abbrev pub within_steps : (has_step within : Bool) → Standing → Standing
within_steps true within standing = cond within standing out_of_steps
within_steps false within standing = standing

abbrev pub ready_for : {N : Type 0} → (limit : ℕ) → Frame N → CodeNext N → Standing
ready_for limit b nothing = ended
ready_for limit b (an_item item work) = to_act (nat_lt b.actions greatest_actions)
ready_for limit b (a_reply call i instruction) = to_act (nat_lt b.actions greatest_actions)
ready_for limit b (an_action p m) = within_steps p.has_step (nat_lt b.steps limit) (to_act (nat_lt b.actions greatest_actions))
ready_for limit b (a_local_piece p) = within_steps p.has_step (nat_lt b.steps limit) local

abbrev pub code_ready : {N : Type 0} → ReadyCode → (limit : ℕ) → CodeState N → Standing
code_ready c limit s = ready_for limit s.frame (code_next c s)
