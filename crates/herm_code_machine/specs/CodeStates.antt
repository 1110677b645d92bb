-- The state of a process of code, and its run from one piece to the next.
use Rattle.std.specs.Prelude.{ℕ, zero, suc, pred, List, [], Bool, cond, ◌||◌, Option, Some, None, option_map, option_and_then, slice_get, length}
use Rattle.herm_model.specs.Outcomes.{Outcome, ok, is_true, is_false, turn, done, component, arm, raised}
use Rattle.herm_model.specs.Targets
use Rattle.herm_model.specs.Values.{Cell, gaps, part, Value}
use Rattle.herm_forms.specs.Frames.{Name, Frame, Completion, goes, stays, stuck}
use Rattle.herm_forms.specs.EdgeFinalising.{arrive}
use Rattle.herm_instructions.specs.Instructions.{Choice, Instruction, Jump, JumpFalse, CaseOf, LoopNext, Select, End, EndBy}
use Rattle.herm_instructions.specs.Images.{instruction_at, landing_of}
use Rattle.herm_instructions.specs.Actions.{is_step, is_action}
use Rattle.herm_code_machine.specs.ReadyCode.{ReadyCode}
use Rattle.herm_code_machine.specs.Effects.{effect}

-- where a process of code is: at an index, or at an end
pub data Position : Type 0 where
  at_index : ℕ → Position
  at_end : Position
  at_end_by : (exception : ℕ) → Position

-- The state of a process of code: the number of its module, its position, the values on its stack, the last pushed one
-- first, and its frame, whose lists of rows stand under the numbers of their slots. Code reference, "Processes".
pub record CodeState (N : Type 0) : Type 0 where
  pub module_number : ℕ
  pub position : Position
  pub stack : List Value
  pub frame : Frame N

-- the index that a jump goes to, or the one behind
abbrev pub jumped : Instruction → (behind : ℕ) → ℕ
jumped (Jump i) behind = i
jumped _ behind = behind

-- the indices of a test, a loop, a component and an arm
abbrev pub index_of_false : Instruction → Option ℕ
index_of_false (JumpFalse i) = Some i
index_of_false _ = None

abbrev pub index_of_done : Instruction → Option ℕ
index_of_done (LoopNext r slot i) = Some i
index_of_done _ = None

abbrev pub index_of_component : Instruction → (component : ℕ) → Option ℕ
index_of_component (CaseOf v indices) k = slice_get indices k
index_of_component _ k = None

abbrev pub index_of_arm : Instruction → (arm : ℕ) → Option ℕ
index_of_arm (Select choices) n = option_map (λ (a : Choice). a.index) (slice_get choices n)
index_of_arm _ n = None

-- Where an outcome of the instruction at an index leads: on to the next one, to the index that it names, or, at an exception,
-- to its landing. Code reference, "Processes".
abbrev pub leads : ReadyCode → (index : ℕ) → Instruction → Outcome → Option ℕ
leads c i instruction ok = Some (jumped instruction (suc i))
leads c i instruction is_true = Some (suc i)
leads c i instruction is_false = index_of_false instruction
leads c i instruction turn = Some (suc i)
leads c i instruction done = index_of_done instruction
leads c i instruction (component k) = index_of_component instruction k
leads c i instruction (arm n) = index_of_arm instruction n
leads c i instruction (raised e) = landing_of c.code i e

-- An exception leads on with an empty stack. Code reference, "Landings".
abbrev pub stack_after : Outcome → List Value → List Value
stack_after (raised e) stack = []
stack_after _ stack = stack

-- The state behind what the instruction at an index comes to; none where it is stuck, or its outcome leads nowhere.
abbrev pub state_behind : {N : Type 0} → ReadyCode → CodeState N → (index : ℕ) → Instruction → List Value → Completion N → Option (CodeState N)
state_behind c s i instruction stack (goes o b) =
    option_map (λ j. record { module_number = s.module_number; position = at_index j; stack = stack_after o stack; frame = b }) (leads c i instruction o)
state_behind c s i instruction stack (stays b) = Some (record { module_number = s.module_number; position = at_index i; stack = stack; frame = b })
state_behind c s i instruction stack stuck = None

-- An end finalises everything, by variables and then by slots, and the process ends. Code reference, "Instructions".
abbrev pub ended_at : {N : Type 0} → ReadyCode → CodeState N → Position → Targets.Target → CodeState N
ended_at c s p t = record { module_number = s.module_number; position = p; stack = []; frame = arrive c.scope t s.frame }

-- one instruction that is neither a step nor an action
abbrev pub done_instruction : {N : Type 0} → (Name → N) → ReadyCode → CodeState N → (index : ℕ) → Instruction → Option (CodeState N)
done_instruction name c s i End = Some (ended_at c s at_end Targets.end)
done_instruction name c s i (EndBy e) = Some (ended_at c s (at_end_by e) (Targets.end_by e))
done_instruction name c s i instruction =
    let e = effect name c instruction s.stack s.frame in state_behind c s i instruction e.stack e.completion

-- A piece begins at a step, or at an action that is met without one. Code reference, "Pieces".
abbrev pub begins_piece : ReadyCode → Instruction → Bool
begins_piece c instruction = is_step instruction || is_action c.scope.types instruction

-- on by the instruction at an index, or to the end of the piece
abbrev pub on_by : {N : Type 0} → (Name → N) → ReadyCode → (CodeState N → Option (CodeState N)) → CodeState N → (index : ℕ) → Option Instruction → Option (CodeState N)
on_by name c next s i None = None
on_by name c next s i (Some instruction) = cond (begins_piece c instruction) (Some s) (option_and_then next (done_instruction name c s i instruction))

abbrev pub on_from : {N : Type 0} → (Name → N) → ReadyCode → (CodeState N → Option (CodeState N)) → CodeState N → Position → Option (CodeState N)
on_from name c next s (at_index i) = on_by name c next s i (instruction_at c.code i)
on_from name c next s at_end = Some s
on_from name c next s (at_end_by e) = Some s

-- The run from a state to the beginning of the next piece, or to an end, in at most so many instructions; none where one is
-- stuck or where so many do not suffice. Code reference, "Pieces".
abbrev pub run_on : {N : Type 0} → (Name → N) → ReadyCode → (most : ℕ) → CodeState N → Option (CodeState N)
run_on name c zero s = None
run_on name c (suc n) s = on_from name c (run_on name c n) s s.position

-- Targets at or before an instruction are steps, so that no run is longer than the code.
abbrev pub to_next_piece : {N : Type 0} → (Name → N) → ReadyCode → CodeState N → Option (CodeState N)
to_next_piece name c s = run_on name c (suc (length c.code.code)) s

-- the port in variable 0 and nothing else
abbrev pub first_frame : {N : Type 0} → (variables : List ℕ) → (number : ℕ) → Cell N → Frame N
first_frame variables number port = record {
  number = number;
  variables = part port (gaps (pred (length variables)));
  loops = [];
  work = [];
  call = None;
  calls = 0;
  steps = 0;
  actions = 0;
  serial = 0;
  finalised = [];
}

-- A process begins with its port in variable 0 and nothing else, and does the instructions before its first piece.
-- Code reference, "Processes".
abbrev pub code_begin : {N : Type 0} → (Name → N) → ReadyCode → (code number : ℕ) → Cell N → Option (CodeState N)
code_begin name c code number port =
    to_next_piece name c (record { module_number = code; position = at_index 0; stack = []; frame = first_frame c.scope.variables number port })
