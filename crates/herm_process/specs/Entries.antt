-- What a process orders and gets, as its entries tell it.
use Rattle.std.specs.Prelude.{◌≡◌, ℕ, Bool, true, false, map, length, Option, Some, None, IsTrue, ⊤}
use Rattle.herm_model.specs.Lists.{all_pass}
use Rattle.herm_model.specs.WellMade.{is_well_made}
use Rattle.herm_journal.specs.Actions.{new_port, new_process, to_put, to_take, to_close, to_answer, to_hear, make_port, make_process, put, take, close, answer, hear}
use Rattle.herm_journal.specs.Entries.{Place, port, reply_cell, book, map_reply, texts_of, recorded}
use Rattle.herm_journal.specs.Messages.{CellAction, CellWant, cells_in}
use Rattle.herm_events.specs.View.{action_view, place_view, reply_trace_view}
use Rattle.herm_events.specs.declared.entry.Action as code_action
use Rattle.herm_events.specs.declared.entry.Place as code_place
use Rattle.herm_values.specs.View.{value_view}
use Rattle.herm_letters.specs.Letters.{IsWholeReply}
use Rattle.herm_letters.specs.View.{reply_view}
use Rattle.herm_exchanges.specs.Told.{told, a_take}
use Rattle.herm_answers.specs.Incomings.{message_taken, port_made, process_made}
use Rattle.herm_machine.specs.declared.order.Got.{Got}
use Rattle.herm_machine.specs.declared.order.Got.TheVariants as gots
use Rattle.herm_machine.specs.declared.order.Order.{Order}
use Rattle.herm_machine.specs.declared.order.Order.TheVariants as orders
use Rattle.herm_process.specs.declared.ordered.Ordered.{Ordered}
use Rattle.herm_process.specs.declared.ordered.Ordered.TheVariants as ordered

-- What comes in with the action is well made. Language reference, "Text of a value".
abbrev pub ComesWellMade : CellAction ⊤ → Type 0
ComesWellMade (make_port made) = ⊤
ComesWellMade (make_process code made) = ⊤
ComesWellMade (put number m) = ⊤
ComesWellMade (take number m) = IsTrue (is_well_made m)
ComesWellMade (close count left) = IsTrue (all_pass is_well_made left)
ComesWellMade (answer call r) = ⊤
ComesWellMade (hear call r) = IsTrue (all_pass is_well_made (cells_in r))

-- The order is for what is wanted, with the message or the reply that goes there.
abbrev pub IsOrderOf : Order → CellWant ⊤ → Type 0
IsOrderOf orders.MakePort new_port = ⊤
IsOrderOf (orders.MakeProcess code) (new_process wanted) = wanted ≡ code
IsOrderOf (orders.Put p letter) (to_put wanted m) = (wanted ≡ p.number) × (m ≡ value_view letter)
IsOrderOf (orders.Take ports) (to_take wanted) = told (to_take wanted) ≡ Some (a_take ports.first.number ports.count)
IsOrderOf (orders.Close p) (to_close wanted) = wanted ≡ p.number
IsOrderOf (orders.Answer p k reply recorded heard) (to_answer caller call r) = (caller ≡ p.number) × (call ≡ k) × (r ≡ reply_view reply)
IsOrderOf orders.Hear to_hear = ⊤
IsOrderOf order w = ⊥

-- the reply of an answer is whole, and both traces are its text
abbrev pub IsWholeOrder : Order → Type 0
IsWholeOrder (orders.Answer p k reply recorded heard) =
    IsWholeReply reply × (reply_trace_view recorded ≡ map_reply texts_of (reply_view reply)) × (reply_trace_view heard ≡ map_reply texts_of (reply_view reply))
IsWholeOrder order = ⊤

-- what is remembered of an order is for what is wanted, with the text of the reply that goes there
abbrev pub IsFor : Ordered → CellWant ⊤ → Type 0
IsFor ordered.MakePort new_port = ⊤
IsFor (ordered.MakeProcess code) (new_process wanted) = wanted ≡ code
IsFor (ordered.Put p sums) (to_put wanted m) = wanted ≡ p.number
IsFor ordered.Take (to_take wanted) = ⊤
IsFor (ordered.Close p) (to_close wanted) = wanted ≡ p.number
IsFor (ordered.Answer p k text sums) (to_answer caller call r) = (caller ≡ p.number) × (call ≡ k) × (reply_trace_view text ≡ map_reply texts_of r)
IsFor ordered.Hear to_hear = ⊤
IsFor o w = ⊥

-- a message or a reply went out with it
abbrev pub gives_away : Ordered → Bool
gives_away (ordered.Put p sums) = true
gives_away (ordered.Answer p k text sums) = true
gives_away _ = false

-- nothing is lost where the order is dropped: it is for a message or a reply that comes in
abbrev pub may_be_dropped : Option Ordered → Bool
may_be_dropped None = true
may_be_dropped (Some ordered.Take) = true
may_be_dropped (Some ordered.Hear) = true
may_be_dropped (Some _) = false

-- The action of a process that wants this and gets that; none where the one does not fit the other. Language reference, "Actions".
abbrev pub action_of : Got → CellWant ⊤ → Option (CellAction ⊤)
action_of (gots.Port made) new_port = Some (port_made made)
action_of (gots.Process made) (new_process code) = Some (process_made code made)
action_of (gots.Placed number trace) (to_put n m) = Some (put (Some number) m)
action_of (gots.Back value trace) (to_put n m) = Some (put None (value_view value))
action_of (gots.Message n parcel) (to_take ports) = Some (message_taken parcel)
action_of (gots.Left left) (to_close n) = Some (close (length left.parcels) (map (λ p. value_view p.value) left.parcels))
action_of gots.Answered (to_answer caller call r) = Some (answer call r)
action_of (gots.Heard call reply trace) to_hear = Some (hear call (reply_view reply))
action_of got w = None

-- the port of a message that is got
abbrev pub taken_at : Got → Place
taken_at (gots.Message n parcel) = port n.number
taken_at _ = book

-- The place at which the process of this number did it. Language reference, "Actions".
abbrev pub place_of : (process : ℕ) → Got → CellWant ⊤ → Place
place_of p got new_port = book
place_of p got (new_process code) = book
place_of p got (to_put n m) = port n
place_of p got (to_take ports) = taken_at got
place_of p got (to_close n) = port n
place_of p got (to_answer caller call r) = reply_cell caller
place_of p got to_hear = reply_cell p

-- They are the place and the action of what was got for what was wanted. Language reference, "Entries".
abbrev pub IsEntryOf : (process : ℕ) → code_place.Place → code_action.Action → Got → CellWant ⊤ → Type 0
IsEntryOf p place action got w = (place_view place ≡ place_of p got w) × ((a : CellAction ⊤) → action_of got w ≡ Some a → action_view action ≡ recorded a)

-- a message or a reply comes in with it that may not suit
abbrev pub comes_in : Got → Bool
comes_in (gots.Message n parcel) = true
comes_in (gots.Heard call reply trace) = true
comes_in _ = false
