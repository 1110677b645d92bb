-- What is claimed of the ledger for one process: edges, beginnings, local steps and answers keep its equation.
use Rattle.std.specs.Prelude.{ℕ, ◌+◌, Some, ◌≡◌}
use Rattle.herm_model.specs.Values.{Cell}
use Rattle.herm_forms.specs.Frames.{Name}
use Rattle.herm_journal.specs.Messages.{CellWant, CellAction}
use Rattle.herm_forms.specs.Modules.{Module}
use Rattle.herm_source.specs.States.{State, begin, wanted, local_step, answered}
use Rattle.herm_journal.specs.Weights.{weigh, weight_received}
use Rattle.herm_forms.specs.Weights.{weight_accounted, weight_made, weight_sent}

-- A process that begins has its port and has made nothing. Language reference, "The ledger".
abbrev pub BeginningsKeep : Type 0
BeginningsKeep = (w : Name → ℕ) (name : Name → Name) (c : Module) (code number : ℕ) (port : Cell Name)
    → weight_made w name (begin c code number port).frame + weigh w port ≡ weight_accounted w (begin c code number port).frame

-- What a local step has made is what the process holds and has finalised more. Language reference, "The ledger".
abbrev pub LocalStepsKeep : Type 0
LocalStepsKeep = (w : Name → ℕ) (name : Name → Name) (c : Module) (s t : State Name) → local_step name c s ≡ Some t
    → weight_made w name t.frame + weight_accounted w s.frame ≡ weight_made w name s.frame + weight_accounted w t.frame

-- What was made behind an action, with what came in, is what the process holds and has finalised more, with what went
-- out. Language reference, "The ledger".
abbrev pub AnswersKeep : Type 0
AnswersKeep = (w : Name → ℕ) (name : Name → Name) (c : Module) (s t : State Name) (want : CellWant Name) (at : ℕ) (action : CellAction Name)
    → wanted name c s ≡ Some want → answered name c s at action ≡ Some t
    → weight_made w name t.frame + (weight_accounted w s.frame + weight_received w action) ≡ weight_made w name s.frame + weight_accounted w t.frame + weight_sent w name s.frame want action
