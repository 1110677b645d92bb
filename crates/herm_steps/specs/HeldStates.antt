-- A process as contracts see it.
use Rattle.std.specs.Prelude.{List}
use Rattle.herm_values.specs.declared.value.Value.{Value}
use Rattle.herm_code_machine.specs.CodeStates.{Position}
use Rattle.herm_frames.specs.HeldFrames.{HeldFrame}

-- where it is, the values on its stack, the top first, and its frame
pub record HeldState : Type 0 where
  pub position : Position
  pub stack : List Value
  pub frame : HeldFrame
