-- Processes with nothing out, as the tests hold them.
use Rattle.std.specs.Prelude.{◌≡◌, ℕ, Some, false, ⊤}
use Rattle.herm_journal.specs.Actions.{to_put}
use Rattle.herm_instructions.specs.Images.{Image}
use Rattle.herm_code_machine.specs.CodeStates.{CodeState}
use Rattle.herm_values.specs.View.{value_view}
use Rattle.herm_values.specs.declared.value.Value.{Value}
use Rattle.herm_machine.specs.Machines.{MachineState, HasOut, StandsFor, nameless}

-- it stands for a state with no order out, if it is not dead
abbrev pub IsGoing : MachineState → Type 0
IsGoing m = m.is_dead ≡ false → (image : Image) × (main : ℕ) × (s : CodeState ⊤) × StandsFor image main m s

-- the message that it wants to put is out
pub record HasSent (m : MachineState) (v : Value) : Type 0 where
  pub image : Image
  pub main : ℕ
  pub state : CodeState ⊤
  pub port : ℕ
  pub wanted : (nameless image main).wanted state ≡ Some (to_put port (value_view v))
  pub out : HasOut image main m state
