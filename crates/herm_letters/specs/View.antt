-- What travels, in the words of the language: replies, and the messages of a queue with their numbers.
-- Language reference, "Replies" and "Ports".
use Rattle.std.specs.Prelude.{ℕ, List, map, ⊤}
use Rattle.herm_journal.specs.Actions.{values, raised, gone}
use Rattle.herm_journal.specs.Messages.{CellReply}
use Rattle.herm_model.specs.Values as model
use Rattle.herm_values.specs.View.{value_view}
use Rattle.herm_letters.specs.declared.reply.Reply.{Reply}
use Rattle.herm_letters.specs.declared.reply.Reply.TheVariants.{Values, Raised, Gone}
use Rattle.herm_letters.specs.declared.parcel.Parcel.{Parcel}

abbrev pub reply_view : Reply → CellReply ⊤
reply_view (Values vs) = values (map value_view vs.items)
reply_view (Raised e vs) = raised e.0 (map value_view vs.items)
reply_view Gone = gone

-- a message with its number
abbrev pub parcel_view : Parcel → ℕ × model.Value
parcel_view p = (p.number, value_view p.value)

-- the queue of these parcels, oldest first
abbrev pub queue_view : List Parcel → List (ℕ × model.Value)
queue_view parcels = map parcel_view parcels
