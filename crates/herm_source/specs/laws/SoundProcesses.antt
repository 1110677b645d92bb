-- What is claimed of one process of a checked program: it stays sound within itself, and stands where control paths lead.
use Rattle.std.specs.Prelude.{◌≡◌, ℕ, Some, slice_get, IsTrue}
use Rattle.herm_model.specs.Statements.{Process}
use Rattle.herm_model.specs.ControlPaths.{flow_of, IsReached}
use Rattle.herm_model.specs.Values.{an_inport, cell, no_parts}
use Rattle.herm_journal.specs.Messages.{CellWant, CellAction}
use Rattle.herm_forms.specs.Frames.{Name}
use Rattle.herm_system.specs.Machines.{is_local}
use Rattle.herm_system.specs.Suiting.{Answers, Suits}
use Rattle.herm_source.specs.States.{State}
use Rattle.herm_source.specs.Modules.{Program, Modules}
use Rattle.herm_source.specs.Instance.{source, IsSoundIn}
use Rattle.herm_source.specs.Checked.{IsChecked}

-- A process that is sound within itself, and stands where a control path of its module leads.
-- Language reference, "Sound states".
pub record IsSoundProcess (program : Program) (modules : Modules) (x : State Name) : Type 0 where
  pub sound : IsSoundIn modules x
  pub reached : (process : Process) → slice_get program.processes x.module_number ≡ Some process → IsReached (flow_of program.types process) x.point

-- the action answers what the process wants
abbrev pub AnswersWant : Modules → State Name → CellAction Name → Type 0
AnswersWant modules x a = (w : CellWant Name) × ((source modules).wanted x ≡ Some w) × Answers w a

-- Each process of a checked program begins so, with the inport of any port; stays so along each local step; and stays so
-- along each answer to what it wants, where what comes in suits. Language reference, "Sound states".
pub record ProcessesStaySound (exceptions : ℕ) (program : Program) (modules : Modules) : Type 0 where
  pub begins : (code number port : ℕ) (n : Name) (x : State Name) → (source modules).begin code number (cell n (an_inport port) no_parts) ≡ Some x → IsSoundProcess program modules x
  pub local_steps : (x y : State Name) → (source modules).local_step x ≡ Some y → IsSoundProcess program modules x → IsSoundProcess program modules y
  pub answers : (x y : State Name) (at : ℕ) (a : CellAction Name) → AnswersWant modules x a → Suits (source modules) x at a → (source modules).answered x at a ≡ Some y
      → IsSoundProcess program modules x → IsSoundProcess program modules y

abbrev pub CheckedProcessesStaySound : Type 0
CheckedProcessesStaySound = (exceptions : ℕ) (program : Program) (modules : Modules) → IsChecked exceptions program modules → ProcessesStaySound exceptions program modules

-- Where a local step is next in such a process, it is there: no statement that is a local step is stuck.
-- Language reference, "Sound states".
abbrev pub LocalStepsAreThere : Type 0
LocalStepsAreThere = (exceptions : ℕ) (program : Program) (modules : Modules) → IsChecked exceptions program modules → (limit : ℕ) (x : State Name) → IsSoundProcess program modules x
    → IsTrue (is_local ((source modules).ready limit x)) → (y : State Name) × ((source modules).local_step x ≡ Some y)
