-- What is claimed of names: they make no difference to what a process does, so that values without names do the same.
use Rattle.std.specs.Prelude.{ℕ, option_map, ◌≡◌}
use Rattle.herm_model.specs.Values.{Cell}
use Rattle.herm_model.specs.CellNames.{forget}
use Rattle.herm_forms.specs.Frames.{Name}
use Rattle.herm_journal.specs.Messages.{CellAction}
use Rattle.herm_forms.specs.Modules.{Module}
use Rattle.herm_source.specs.States.{State, begin, wanted, local_step, answered, own_name}
use Rattle.herm_journal.specs.Renaming.{rename_want, rename_action, forget_name}
use Rattle.herm_source.specs.Renaming.{forget_state}

-- A process begins without names as it does with them. Language reference, "Values".
abbrev pub BeginningsForget : Type 0
BeginningsForget = (c : Module) (code number : ℕ) (port : Cell Name) → begin c code number (forget port) ≡ forget_state (begin c code number port)

-- What it wants is the same but for names. Language reference, "Values".
abbrev pub WantsForget : Type 0
WantsForget = (c : Module) (s : State Name) → wanted forget_name c (forget_state s) ≡ option_map (rename_want forget_name) (wanted own_name c s)

-- Its local step, of every form, is the same but for names. Language reference, "Values".
abbrev pub LocalStepsForget : Type 0
LocalStepsForget = (c : Module) (s : State Name) → local_step forget_name c (forget_state s) ≡ option_map forget_state (local_step own_name c s)

-- What an answer leaves, of every action, is the same but for names. Language reference, "Values".
abbrev pub AnswersForget : Type 0
AnswersForget = (c : Module) (s : State Name) (at : ℕ) (action : CellAction Name)
    → answered forget_name c (forget_state s) at (rename_action forget_name action) ≡ option_map forget_state (answered own_name c s at action)
