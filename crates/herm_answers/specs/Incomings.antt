-- The actions that tell of what comes in where nothing was given away.
use Rattle.std.specs.Prelude.{◌≡◌, ℕ, Option, option_map, ⊤}
use Rattle.herm_base.specs.declared.numbers.PortNo.{PortNo}
use Rattle.herm_base.specs.declared.numbers.ProcNo.{ProcNo}
use Rattle.herm_journal.specs.Actions.{make_port, make_process, take}
use Rattle.herm_journal.specs.Messages.{CellAction}
use Rattle.herm_letters.specs.Letters.{IsParcel}
use Rattle.herm_letters.specs.declared.parcel.Parcel.{Parcel}
use Rattle.herm_values.specs.View.{value_view}
use Rattle.herm_answers.specs.declared.incoming.Incoming.{Incoming}
use Rattle.herm_answers.specs.declared.incoming.Incoming.TheVariants as incomings

abbrev pub port_made : Option PortNo → CellAction ⊤
port_made made = make_port (option_map (λ (p : PortNo). p.number) made)

abbrev pub process_made : (code : ℕ) → Option (ProcNo × PortNo) → CellAction ⊤
process_made code made = make_process code (option_map (λ (m : ProcNo × PortNo). (m.0.number, m.1.number)) made)

abbrev pub message_taken : Parcel → CellAction ⊤
message_taken p = take p.number (value_view p.value)

-- The action tells of this, where it was done at the place of this number. Language reference, "Actions".
abbrev pub TellsIncoming : Incoming → (at : ℕ) → CellAction ⊤ → Type 0
TellsIncoming (incomings.Port made) at action = action ≡ port_made made
TellsIncoming (incomings.Process made) at action = (code : ℕ) × (action ≡ process_made code made)
TellsIncoming (incomings.Message port parcel) at action = (at ≡ port.number) × (action ≡ message_taken parcel)

-- a message is whole
abbrev pub IsWholeIncoming : Incoming → Type 0
IsWholeIncoming (incomings.Port made) = ⊤
IsWholeIncoming (incomings.Process made) = ⊤
IsWholeIncoming (incomings.Message port parcel) = IsParcel parcel
