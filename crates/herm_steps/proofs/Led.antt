-- An outcome leads on, or nowhere.
use Rattle.std.proofs.Common.{◌≡◌, ℕ, List, true, Some, None, option_map, refl, sym, ap}
use Rattle.std.specs.Prelude.{⊤}
use Rattle.herm_model.specs.Outcomes.{Outcome}
use Rattle.herm_model.specs.Values.{Value}
use Rattle.herm_forms.specs.Frames.{Frame, goes}
use Rattle.herm_instructions.specs.Instructions.{Instruction}
use Rattle.herm_code_machine.specs.CodeStates.{CodeState, at_index, leads, stack_after, state_behind}
use Rattle.herm_code_machine.specs.ReadyCode.{ReadyCode}
use Rattle.herm_frames.specs.Standing.{Stands}
use Rattle.herm_stack.specs.Answers.{on_stack}
use Rattle.herm_steps.specs.Behind.{IsBehind}
use Rattle.herm_steps.specs.HeldStates.{HeldState}

abbrev pub behind_at : CodeState ⊤ → List Value → Frame ⊤ → ℕ → CodeState ⊤
behind_at s stack b j = record { module_number = s.module_number; position = at_index j; stack = stack; frame = b }

pub leads_on : (c : ReadyCode) (s : CodeState ⊤) (i j : ℕ) (instruction : Instruction) (stack : List Value) (o : Outcome) (b : Frame ⊤) (p : HeldState) → Some j ≡ leads c i instruction o → p.position ≡ at_index j → on_stack p.stack ≡ stack_after o stack → Stands p.frame b
    → IsBehind true p s (state_behind c s i instruction stack (goes o b))
leads_on c s i j instruction stack o b p at position is h = (
  behind_at s (stack_after o stack) b j,
  ap (option_map (λ j. behind_at s (stack_after o stack) b j)) (sym at),
  refl,
  record { position = sym position; stack = sym is; frame = h },
)

pub leads_nowhere : (c : ReadyCode) (s : CodeState ⊤) (i : ℕ) (instruction : Instruction) (stack : List Value) (o : Outcome) (b : Frame ⊤) → None ≡ leads c i instruction o → state_behind c s i instruction stack (goes o b) ≡ None
leads_nowhere c s i instruction stack o b at = ap (option_map (λ j. behind_at s (stack_after o stack) b j)) (sym at)
