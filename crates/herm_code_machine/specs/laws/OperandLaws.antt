-- What is claimed of the instructions that processes do: each run is on its way instruction by instruction, and in good images each finds its operands.
use Rattle.std.specs.Prelude.{ℕ, suc, List, [], ◌∷◌, false, None, Some, slice_get, IsTrue, ◌≡◌}
use Rattle.herm_model.specs.Values.{Name, an_inport, Cell, cell, no_parts}
use Rattle.herm_journal.specs.Messages.{CellWant, CellAction}
use Rattle.herm_forms.specs.ClosesAndAnswers.{work_done}
use Rattle.herm_forms.specs.Frames.{stays, counted_step, counted_action}
use Rattle.herm_system.specs.Suiting.{Answers, Suits}
use Rattle.herm_instructions.specs.Actions.{is_action}
use Rattle.herm_instructions.specs.Images.{Image, instruction_at}
use Rattle.herm_instructions.specs.Instructions.{Instruction, Step}
use Rattle.herm_instructions.specs.Labels.{Label}
use Rattle.herm_code_machine.specs.CodeActions.{code_wants, code_settles, code_hears}
use Rattle.herm_code_machine.specs.CodeInstance.{own_name, code_at, code_machine}
use Rattle.herm_code_machine.specs.CodeLocal.{IsSoundCodeIn}
use Rattle.herm_code_machine.specs.CodeStates.{at_index, CodeState, state_behind, done_instruction, begins_piece, first_frame}
use Rattle.herm_code_machine.specs.ReadyCode.{ReadyCode, ReadyImage, labelled_image}
use Rattle.herm_code_machine.specs.laws.EndLaws.{IsOnTheWay}
use Rattle.herm_code_machine.specs.laws.GoodImageLaws.{IsGoodOver, IsAsLabelled}
use Rattle.herm_code_machine.specs.laws.StandingLaws.{IsAtInstruction}

-- The instruction at an index finds its operands: variables, stack and slots are what the label there says, and it is done.
-- Code reference, "Good code".
pub record FindsOperands (c : ReadyCode) (s : CodeState Name) (i : ℕ) (instruction : Instruction) : Type 0 where
  pub label : Label
  pub labelled : c.label i ≡ Some label
  pub as_labelled : IsAsLabelled c label s.stack s.frame
  pub behind : CodeState Name
  pub done : done_instruction own_name c s i instruction ≡ Some behind

-- In the run from a state no instruction is stuck: at each index that it comes to there is an instruction, which begins the next piece or
-- finds its operands. Code reference, "Good code".
abbrev pub IsNowhereStuck : ReadyCode → CodeState Name → Type 0
IsNowhereStuck c s = (t : CodeState Name) → IsOnTheWay own_name c s t → (i : ℕ) → t.position ≡ at_index i
    → (instruction : Instruction) × (instruction_at c.code i ≡ Some instruction) × (begins_piece c instruction ≡ false → FindsOperands c t i instruction)

-- a process as it is before the instructions that it begins with
abbrev pub as_begun : ReadyCode → (code number : ℕ) → Cell Name → CodeState Name
as_begun c code number port = record { module_number = code; position = at_index 0; stack = []; frame = first_frame c.scope.variables number port }

-- the state behind the step at an index, which is counted
abbrev pub behind_step : CodeState Name → (index : ℕ) → CodeState Name
behind_step x i = record { module_number = x.module_number; position = at_index (suc i); stack = x.stack; frame = counted_step x.frame }

module _ (c : ReadyCode) (x : CodeState Name) where
  -- Before the action that is next: the process is at it, or the run behind its step comes to it. Code reference, "Pieces".
  pub data IsBefore : (index : ℕ) → (action : Instruction) → CodeState Name → Type 0 where
    at_once : (i : ℕ) (action : Instruction) → IsAtInstruction c x i action → IsTrue (is_action c.scope.types action) → IsBefore i action x
    by_its_step : (i j : ℕ) (action : Instruction) (t : CodeState Name) → IsAtInstruction c x i Step → IsOnTheWay own_name c (behind_step x i) t → t.position ≡ at_index j → instruction_at c.code j ≡ Some action → IsTrue (is_action c.scope.types action) → IsBefore j action t

  -- What the action that is next comes to with an answer, from before it; and what the call that is open comes to with the reply to it.
  -- Code reference, "Pieces".
  pub data IsLeftBy (at : ℕ) (a : CellAction Name) : CodeState Name → Type 0 where
    by_action : (j : ℕ) (action : Instruction) (t u : CodeState Name) → IsBefore j action t
        → (let e = code_settles own_name c action t.stack at a (counted_action t.frame) in state_behind c t j action e.stack e.completion ≡ Some u) → IsLeftBy at a u
    by_reply : (k j : ℕ) (call : Instruction) (u : CodeState Name) → x.frame.work ≡ [] → x.frame.call ≡ Some k → x.position ≡ at_index j → instruction_at c.code j ≡ Some call
        → state_behind c x j call x.stack (code_hears call k a (counted_action x.frame)) ≡ Some u → IsLeftBy at a u

  -- what an action that is next wants, from before it
  pub data IsWantedBy (w : CellWant Name) : Type 0 where
    by_next_action : (j : ℕ) (action : Instruction) (t : CodeState Name) → IsBefore j action t → code_wants own_name c action t.stack x.frame ≡ Some w → IsWantedBy w

  -- What an answer leaves that is for the front of the work list: what was done with the front, with the rest of the list as it was, and the process where it was.
  -- Code reference, "Processes".
  pub record IsLeftByItem (item : Cell Name) (work : List (Cell Name)) (a : CellAction Name) (y : CodeState Name) : Type 0 where
    pub done : work_done item a (counted_action (record (x.frame) { work = work })) ≡ stays y.frame
    pub same : record y { frame = x.frame } ≡ x

-- A process begins with the run from index 0; a local step is the run behind its step; and an answer is what is done with the front of the work list, or the run
-- behind what its action comes to. An action wants and settles with the operands that the run behind the step has pushed. Code reference, "Pieces".
pub record IsTheRunBehind (image : ReadyImage) (c : ReadyCode) : Type 0 where
  pub begins : (code number : ℕ) (port : Cell Name) (x : CodeState Name) → slice_get image.codes code ≡ Some c → (code_machine image).begin code number port ≡ Some x → IsOnTheWay own_name c (as_begun c code number port) x
  pub steps : (x y : CodeState Name) → code_at image x ≡ Some c → (code_machine image).local_step x ≡ Some y → (i : ℕ) × IsAtInstruction c x i Step × IsOnTheWay own_name c (behind_step x i) y
  pub answers : (x y : CodeState Name) (at : ℕ) (a : CellAction Name) → code_at image x ≡ Some c → (code_machine image).answered x at a ≡ Some y → x.frame.work ≡ [] → (u : CodeState Name) × IsLeftBy c x at a u × IsOnTheWay own_name c u y
  pub items : (x y : CodeState Name) (at : ℕ) (a : CellAction Name) → code_at image x ≡ Some c → (code_machine image).answered x at a ≡ Some y → (item : Cell Name) (work : List (Cell Name)) → x.frame.work ≡ item ∷ work → IsLeftByItem c x item work a y
  pub wants : (x : CodeState Name) (w : CellWant Name) → code_at image x ≡ Some c → (code_machine image).wanted x ≡ Some w → x.frame.work ≡ [] → x.frame.call ≡ None → IsWantedBy c x w

abbrev pub StepsAreRuns : Type 0
StepsAreRuns = (image : ReadyImage) (c : ReadyCode) → IsTheRunBehind image c

-- No run is stuck: as a process begins; behind the step that a sound process is at; and behind each answer, with which what suits comes in, to what it
-- wants. Code reference, "Sound states of code".
pub record NoneIsStuck (image : ReadyImage) (c : ReadyCode) : Type 0 where
  pub begins : (code number port : ℕ) (n : Name) → slice_get image.codes code ≡ Some c
      → IsNowhereStuck c (as_begun c code number (cell n (an_inport port) no_parts))
  pub steps : (x : CodeState Name) → IsSoundCodeIn image x → code_at image x ≡ Some c → (i : ℕ) → IsAtInstruction c x i Step → IsNowhereStuck c (behind_step x i)
  pub answers : (x : CodeState Name) → IsSoundCodeIn image x → code_at image x ≡ Some c → (want : CellWant Name) (at : ℕ) (a : CellAction Name) → (code_machine image).wanted x ≡ Some want → Answers want a → Suits (code_machine image) x at a
      → (u : CodeState Name) → IsLeftBy c x at a u → IsNowhereStuck c u

abbrev pub RunsFindOperands : Type 0
RunsFindOperands = (exceptions : ℕ) (image : Image) (main : ℕ) → IsGoodOver exceptions image → (c : ReadyCode) → NoneIsStuck (labelled_image image main) c
