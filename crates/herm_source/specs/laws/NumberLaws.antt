-- What is claimed of one process: it keeps its number and its module.
use Rattle.std.specs.Prelude.{ℕ, Some, ◌≡◌}
use Rattle.herm_model.specs.Values.{Name}
use Rattle.herm_journal.specs.Messages.{CellAction}
use Rattle.herm_forms.specs.Modules.{Module}
use Rattle.herm_source.specs.States.{State, local_step, answered}

-- A process keeps its number and its module along local steps and answers.
abbrev pub LocalStepsStay : Type 0
LocalStepsStay = (name : Name → Name) (c : Module) (s t : State Name) → local_step name c s ≡ Some t → (t.frame.number ≡ s.frame.number) × (t.module_number ≡ s.module_number)

abbrev pub AnswersStay : Type 0
AnswersStay = (name : Name → Name) (c : Module) (s t : State Name) (at : ℕ) (a : CellAction Name) → answered name c s at a ≡ Some t → (t.frame.number ≡ s.frame.number) × (t.module_number ≡ s.module_number)
