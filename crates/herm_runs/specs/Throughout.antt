-- What is so of a process throughout a run.
use Rattle.std.specs.Prelude.{ℕ, Some, ◌≡◌}
use Rattle.herm_model.specs.Values.{Name, Cell}
use Rattle.herm_journal.specs.Messages.{CellAction}
use Rattle.herm_system.specs.Machines.{Machine}

-- It is so of each process that begins, and stays so along local steps and answers.
pub record StaysSo {P : Type 0} (machine : Machine Name P) (Is : P → Type 0) : Type 0 where
  pub begins : (code number : ℕ) (port : Cell Name) (x : P) → machine.begin code number port ≡ Some x → Is x
  pub local_steps : (x y : P) → machine.local_step x ≡ Some y → Is x → Is y
  pub answers : (x y : P) (at : ℕ) (a : CellAction Name) → machine.answered x at a ≡ Some y → Is x → Is y
