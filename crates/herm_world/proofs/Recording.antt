-- Actions between the values of the code: what they leave, and how they are recorded, between those of the language.
use Rattle.std.proofs.Common.{◌≡◌, ℕ, List, [], ◌∷◌, map, refl, ap}
use Rattle.herm_model.specs.ValueTexts.{text_of}
use Rattle.herm_journal.specs.Actions.{make_port, make_process, put, take, close, answer, hear}
use Rattle.herm_journal.specs.Entries.{Text, Record}
use Rattle.herm_runs.proofs.Events.{after-map}
use Rattle.herm_values.specs.View.{value_view}
use Rattle.herm_values.specs.declared.value.Value.{Value}
use Rattle.herm_letters.specs.View.{reply_view}
use Rattle.herm_queue.specs.CellStates.{value_text}
use Rattle.herm_queue.specs.SeenCells.{ActionsLead, ActionsAreRecorded}

pub actions-lead : ActionsLead
actions-lead h a = after-map value_view reply_view h a

texts-twice : (vs : List Value) → map value_text vs ≡ map text_of (map value_view vs)
texts-twice [] = refl
texts-twice (v ∷ vs) = ap (value_text v ∷◌) (texts-twice vs)

abbrev record_of_close : ℕ → List Text → Record
record_of_close count left = close count left

pub actions-are_recorded : ActionsAreRecorded
actions-are_recorded (make_port made) = refl
actions-are_recorded (make_process code made) = refl
actions-are_recorded (put number v) = refl
actions-are_recorded (take number v) = refl
actions-are_recorded (close count left) = ap (record_of_close count) (texts-twice left)
actions-are_recorded (answer call r) = refl
actions-are_recorded (hear call r) = refl
