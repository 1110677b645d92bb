-- How the run of an image by rounds ends, and with what text.
use Rattle.std.specs.Prelude.{ℕ, List, [], ◌∷◌, flat_map, Option, option_map, codes}
use Rattle.herm_model.specs.Values.{Name}
use Rattle.herm_journal.specs.NextNumbers.{Limits}
use Rattle.herm_journal.specs.Entries.{Text}
use Rattle.herm_system.specs.Systems.{Run, start}
use Rattle.herm_system.specs.Rounds.{rounds}
use Rattle.herm_system.specs.Statuses.{status_of}
use Rattle.herm_system.specs.RunTexts.{Asked, text_of_run}
use Rattle.herm_system.specs.TextLines.{line}
use Rattle.herm_instructions.specs.Labels.{listed_at}
use Rattle.herm_instructions.specs.Images.{CodeModule, Image}
use Rattle.herm_code_machine.specs.ReadyCode.{ready_image}
use Rattle.herm_code_machine.specs.CodeStates.{CodeState}
use Rattle.herm_code_machine.specs.CodeInstance.{code_machine}

abbrev pub limited : (steps processes ports : ℕ) → Limits
limited steps processes ports = record { steps = steps; processes = processes; ports = ports }

-- the names of the predefined exceptions by number, and of one more
abbrev pub exception_names : List Text
exception_names =
    codes "Overflow" ∷ codes "Depletion" ∷ codes "CaseError" ∷ codes "PolymorphMismatch" ∷ codes "DuplicateKey"
    ∷ codes "NotFound" ∷ codes "Disconnected" ∷ codes "Busy" ∷ []

-- how a run ended: its status and its text
pub record CodeEnding : Type 0 where
  pub status : ℕ
  pub text : Text

-- The ending of the run of an image by rounds, with an empty argument, where at most so many rounds suffice. A run looks at
-- no types of rows, so that the listed labels are labels enough.
abbrev pub code_ending : (most : ℕ) → Asked → Limits → Image → (main : ℕ) → Option CodeEnding
code_ending most asked limits image main =
    let machine = code_machine (ready_image image main (λ (m : CodeModule) index. listed_at m.labels index))
    in option_map (λ (r : Run (CodeState Name)). record { status = status_of machine r.system; text = text_of_run exception_names asked machine r }) (rounds most machine (start machine limits []))

-- a text of these lines
abbrev pub in_lines : List Text → Text
in_lines ts = flat_map line ts
