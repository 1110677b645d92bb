-- When a process of the code stands for a state of the machine of code.
use Rattle.std.specs.Prelude.{◌≡◌, ⊤}
use Rattle.herm_stack.specs.Answers.{on_stack}
use Rattle.herm_code_machine.specs.CodeStates.{CodeState}
use Rattle.herm_frames.specs.Standing.{Stands}
use Rattle.herm_steps.specs.HeldStates.{HeldState}

-- The position and the stack are equal, and the frame stands for the frame. Code reference, "Processes".
pub record StandsAt (p : HeldState) (s : CodeState ⊤) : Type 0 where
  pub position : s.position ≡ p.position
  pub stack : s.stack ≡ on_stack p.stack
  pub frame : Stands p.frame s.frame
