-- The messages of a port.
use Rattle.std.specs.Prelude.{ℕ, List, map}
use Rattle.herm_journal.specs.Entries.{Text}
use Rattle.herm_values.specs.declared.value.Value.{Value}
use Rattle.herm_letters.specs.declared.parcel.Parcel.{Parcel}
use Rattle.herm_queue.specs.CellStates.{value_text}

-- messages in queue order, and for how many more there is room, and for how many more texts
pub record MessageState : Type 0 where
  pub parcels : List Parcel
  pub room : ℕ
  pub text_room : ℕ

-- messages with their numbers, oldest first
abbrev pub queue_of : List Parcel → List (ℕ × Value)
queue_of parcels = map (λ (p : Parcel). (p.number, p.value)) parcels

-- the values of messages, and their texts
abbrev pub values_of : List Parcel → List Value
values_of parcels = map (λ (p : Parcel). p.value) parcels

abbrev pub texts_of_parcels : List Parcel → List Text
texts_of_parcels parcels = map (λ (p : Parcel). value_text p.value) parcels
