-- What is claimed of how processes of code stand: as their work list, their call, their position and their limits say.
use Rattle.std.specs.Prelude.{ℕ, suc, ◌<◌, ◌≤◌, List, [], ◌∷◌, Some, None, IsTrue, ⊤, ◌≡◌, ◌↔◌}
use Rattle.herm_model.specs.Values.{Name, Cell}
use Rattle.herm_system.specs.Machines.{Standing, ended, out_of_steps, out_of_actions, waiting, local, acting, greatest_actions}
use Rattle.herm_instructions.specs.Actions.{is_action}
use Rattle.herm_instructions.specs.Images.{instruction_at}
use Rattle.herm_instructions.specs.Instructions.{Instruction, Step}
use Rattle.herm_instructions.specs.Pieces.{is_operand}
use Rattle.herm_code_machine.specs.CodeInstance.{code_at, code_machine}
use Rattle.herm_code_machine.specs.CodeLocal.{IsSoundCodeIn}
use Rattle.herm_code_machine.specs.CodeStates.{Position, at_index, at_end, at_end_by, CodeState}
use Rattle.herm_code_machine.specs.ReadyCode.{ReadyCode, ReadyImage}

-- a position that is an end
abbrev pub IsAtEnd : Position → Type 0
IsAtEnd (at_index i) = ⊥
IsAtEnd at_end = ⊤
IsAtEnd (at_end_by e) = ⊤

-- From an index on constants and copies alone lead to this action. Code reference, "Pieces".
pub data LeadsToAction (c : ReadyCode) : (index : ℕ) → (action : Instruction) → Type 0 where
  at_action : (i : ℕ) (action : Instruction) → instruction_at c.code i ≡ Some action → IsTrue (is_action c.scope.types action) → LeadsToAction c i action
  behind_operand : (i : ℕ) (operand action : Instruction) → instruction_at c.code i ≡ Some operand → IsTrue (is_operand operand) → LeadsToAction c (suc i) action → LeadsToAction c i action

-- Nothing waits to be finalised, no call is open, and the process is at this instruction.
abbrev pub IsAtInstruction : ReadyCode → CodeState Name → (index : ℕ) → Instruction → Type 0
IsAtInstruction c x i instruction = (x.frame.work ≡ []) × (x.frame.call ≡ None) × (x.position ≡ at_index i) × (instruction_at c.code i ≡ Some instruction)

module _ (c : ReadyCode) (limit : ℕ) (x : CodeState Name) where
  -- Something waits to be finalised; a call is open; the process is at an action; or it is at a step that leads to an action, and a step is
  -- left. Code reference, "Processes".
  pub data IsActionNext : Type 0 where
    an_item_waits : (item : Cell Name) (work : List (Cell Name)) → x.frame.work ≡ item ∷ work → IsActionNext
    a_call_is_open : (call : ℕ) → x.frame.work ≡ [] → x.frame.call ≡ Some call → IsActionNext
    an_action_is_there : (i : ℕ) (action : Instruction) → IsAtInstruction c x i action → IsTrue (is_action c.scope.types action) → IsActionNext
    a_step_leads_to_one : (i : ℕ) (action : Instruction) → IsAtInstruction c x i Step → LeadsToAction c (suc i) action → x.frame.steps < limit → IsActionNext

  -- What it means that a process stands so. Code reference, "Processes".
  abbrev pub StandsSo : Standing → Type 0
  StandsSo ended = (x.frame.work ≡ []) × (x.frame.call ≡ None) × IsAtEnd x.position
  StandsSo out_of_steps = (i : ℕ) × IsAtInstruction c x i Step × (limit ≤ x.frame.steps)
  StandsSo out_of_actions = IsActionNext × (greatest_actions ≤ x.frame.actions)
  StandsSo waiting = ⊥
  StandsSo local = (i : ℕ) × IsAtInstruction c x i Step × ((action : Instruction) → LeadsToAction c (suc i) action → ⊥) × (x.frame.steps < limit)
  StandsSo acting = IsActionNext × (x.frame.actions < greatest_actions)

-- A process that is sound within itself stands exactly as its work list, its call, its position and its limits say.
-- Code reference, "Processes".
abbrev pub ProcessesStandSo : Type 0
ProcessesStandSo = (image : ReadyImage) (limit : ℕ) (x : CodeState Name) → IsSoundCodeIn image x → (c : ReadyCode) → code_at image x ≡ Some c → (s : Standing) → ((code_machine image).ready limit x ≡ s) ↔ StandsSo c limit x s
