-- What an instruction leaves of a process.
use Rattle.std.specs.Prelude.{◌≡◌, ℕ, Option, Some, None, ⊤}
use Rattle.herm_model.specs.Outcomes as model
use Rattle.herm_forms.specs.Frames.{stuck}
use Rattle.herm_instructions.specs.Instructions.{Instruction}
use Rattle.herm_code_machine.specs.CodeStates.{CodeState, state_behind}
use Rattle.herm_code_machine.specs.ReadyCode.{ReadyCode}
use Rattle.herm_code_machine.specs.Stacks.{Effect}
use Rattle.herm_frames.specs.Completed.{Completes, outcome_view}
use Rattle.herm_frames.specs.declared.outcome.Outcome.{Outcome}
use Rattle.herm_stack.specs.Answers.{on_stack}
use Rattle.herm_steps.specs.HeldStates.{HeldState}

-- with this outcome the stack is the effect's, and the frame stands for the frame behind it; or it is stuck
abbrev pub Leaves : Option model.Outcome → HeldState → Effect ⊤ → Type 0
Leaves None p e = e.completion ≡ stuck
Leaves (Some o) p e = (e.stack ≡ on_stack p.stack) × Completes (Some o) p.frame e.completion

-- The process performs the effect with this outcome. Code reference, "Instructions".
abbrev pub Performs : Outcome → HeldState → Effect ⊤ → Type 0
Performs o p e = Leaves (outcome_view o) p e

-- the state behind an effect
abbrev pub behind_effect : ReadyCode → CodeState ⊤ → (index : ℕ) → Instruction → Effect ⊤ → Option (CodeState ⊤)
behind_effect c s i instruction e = state_behind c s i instruction e.stack e.completion
