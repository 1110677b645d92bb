-- Programs made ready, and the text of their runs by rounds.
use Rattle.std.specs.Prelude.{ℕ, List, [], ◌∷◌, map, flat_map, Option, option_map, codes, ℤ}
use Rattle.herm_journal.specs.NextNumbers.{Limits}
use Rattle.herm_journal.specs.Ports.{port_with}
use Rattle.herm_journal.specs.Entries.{Text}
use Rattle.herm_source.specs.LabelRounds.{ready}
use Rattle.herm_source.specs.Modules.{Program, Modules}
use Rattle.herm_system.specs.Systems.{Run, start, System, opening, first_message}
use Rattle.herm_system.specs.Rounds.{rounds}
use Rattle.herm_system.specs.Statuses.{status_of}
use Rattle.herm_system.specs.RunTexts.{Asked, text_of_run}
use Rattle.herm_system.specs.TextLines.{line}
use Rattle.herm_source.specs.Instance.{source}
use Rattle.herm_source.specs.States.{State}
use Rattle.herm_model.specs.Values.{Name, a_scalar, an_integer, cell, no_parts}
use Rattle.herm_source.specs.examples.Programs.{greeting}

-- the program with its labels, for which three rounds suffice in each example
abbrev pub ready_program : Program → Modules
ready_program program = record { types = program.types; codes = map (ready 3 program.types) program.processes; main = program.main }

abbrev pub limited : (steps processes ports : ℕ) → Limits
limited steps processes ports = record { steps = steps; processes = processes; ports = ports }

-- the names of the predefined exceptions by number, and of one more
abbrev pub exception_names : List Text
exception_names =
    codes "Overflow" ∷ codes "Depletion" ∷ codes "CaseError" ∷ codes "PolymorphMismatch" ∷ codes "DuplicateKey"
    ∷ codes "NotFound" ∷ codes "Disconnected" ∷ codes "Busy" ∷ []

-- how a run ended: its status and its text
pub record Ending : Type 0 where
  pub status : ℕ
  pub text : Text

-- The ending of the run by rounds, with an empty argument, where at most so many rounds suffice.
abbrev pub ending : (most : ℕ) → Asked → Limits → Program → Option Ending
ending most asked limits program =
    let machine = source (ready_program program)
    in option_map (λ (r : Run (State Name)). record { status = status_of machine r.system; text = text_of_run exception_names asked machine r }) (rounds most machine (start machine limits []))

-- a text of these lines
abbrev pub in_lines : List Text → Text
in_lines ts = flat_map line ts

-- the opening state of the greeting, with an integer queued at the console
abbrev pub console_with : ℤ → System (State Name)
console_with n =
    record (opening (source (ready_program greeting)) (limited 1000 4 4) []) { ports = port_with (cell (1, 0) (a_scalar (an_integer n)) no_parts) ∷ port_with (first_message []) ∷ [] }
