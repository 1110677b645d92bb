-- What a process gets of a place: of which action it tells, which want it fits, and whether it suits.
use Rattle.std.specs.Prelude.{◌≡◌, ℕ, Bool, false, Some, None, map, length, ⊤}
use Rattle.std.specs.List.{All}
use Rattle.herm_model.specs.Values.{Value}
use Rattle.herm_model.specs.ValueTexts.{text_of}
use Rattle.herm_journal.specs.Actions.{new_port, new_process, to_put, to_take, to_close, to_answer, to_hear, put, close, answer, hear}
use Rattle.herm_journal.specs.Entries.{map_reply, texts_of}
use Rattle.herm_journal.specs.Messages.{CellAction, CellReply, CellWant}
use Rattle.herm_system.specs.Suiting.{Suits}
use Rattle.herm_instructions.specs.Images.{Image}
use Rattle.herm_code_machine.specs.CodeStates.{CodeState}
use Rattle.herm_code_machine.specs.ReadyCode.{ReadyCode}
use Rattle.herm_events.specs.View.{reply_trace_view}
use Rattle.herm_values.specs.View.{value_view}
use Rattle.herm_values.specs.Whole.{IsWhole}
use Rattle.herm_letters.specs.Letters.{IsParcel, IsWholeReply}
use Rattle.herm_letters.specs.View.{reply_view}
use Rattle.herm_steps.specs.HeldStates.{HeldState}
use Rattle.herm_steps.specs.StandingAt.{StandsAt}
use Rattle.herm_answers.specs.Incomings.{message_taken, port_made, process_made}
use Rattle.herm_machine.specs.Machines.{IsAt, IsOrderOut, IsOut, MachineState, nameless}
use Rattle.herm_machine.specs.declared.order.Got.{Got}
use Rattle.herm_machine.specs.declared.order.Got.TheVariants as gots

-- The action tells of this, where it was done at the place of this number. Language reference, "Actions".
abbrev pub TellsGot : Got → (at : ℕ) → CellAction ⊤ → Type 0
TellsGot (gots.Port made) at a = a ≡ port_made made
TellsGot (gots.Process made) at a = (code : ℕ) × (a ≡ process_made code made)
TellsGot (gots.Placed number trace) at a = (m : Value) × (a ≡ put (Some number) m) × (trace ≡ text_of m)
TellsGot (gots.Back value trace) at a = a ≡ put None (value_view value)
TellsGot (gots.Message port parcel) at a = (at ≡ port.number) × (a ≡ message_taken parcel)
TellsGot (gots.Left left) at a = a ≡ close (length left.parcels) (map (λ p. value_view p.value) left.parcels)
TellsGot gots.Answered at a = (call : ℕ) × (r : CellReply ⊤) × (a ≡ answer call r)
TellsGot (gots.Heard call reply trace) at a = a ≡ hear call (reply_view reply)

-- It answers the want, and each trace in it is the text of what it is beside, or of the message that was taken out; what comes
-- back is that message. Language reference, "Diaries".
abbrev pub FitsWant : Got → CellWant ⊤ → Type 0
FitsWant (gots.Port made) new_port = ⊤
FitsWant (gots.Process made) (new_process code) = ⊤
FitsWant (gots.Placed number trace) (to_put port m) = trace ≡ text_of m
FitsWant (gots.Back value trace) (to_put port m) = (value_view value ≡ m) × (trace ≡ text_of m)
FitsWant (gots.Message port parcel) (to_take ports) = ⊤
FitsWant (gots.Left left) (to_close port) = ⊤
FitsWant gots.Answered (to_answer caller call r) = ⊤
FitsWant (gots.Heard call reply trace) to_hear = reply_trace_view trace ≡ map_reply texts_of (reply_view reply)
FitsWant got w = ⊥

-- what it holds is whole, and messages have their texts
abbrev pub IsWholeGot : Got → Type 0
IsWholeGot (gots.Back value trace) = IsWhole value
IsWholeGot (gots.Message port parcel) = IsParcel parcel
IsWholeGot (gots.Left left) = All IsParcel left.parcels
IsWholeGot (gots.Heard call reply trace) = IsWholeReply reply
IsWholeGot got = ⊤

-- it fits what the process wants, if it is not dead, at a state at which it is
abbrev pub Fits : MachineState → Got → Type 0
Fits m got = m.is_dead ≡ false → (image : Image) × (main : ℕ) × (s : CodeState ⊤) × (w : CellWant ⊤) × IsAt image main m s × ((nameless image main).wanted s ≡ Some w) × FitsWant got w

-- each action that it tells of suits the process. Language reference, "Diaries".
abbrev pub IsSuiting : MachineState → Got → Type 0
IsSuiting m got = (image : Image) (main : ℕ) (s : CodeState ⊤) (at : ℕ) (a : CellAction ⊤) → IsAt image main m s → TellsGot got at a → Suits (nameless image main) s at a

-- the message or the reply for which it comes was taken out before
abbrev pub IsOrdered : MachineState → Got → Type 0
IsOrdered m (gots.Placed number trace) = IsOrderOut m
IsOrdered m (gots.Back value trace) = IsOrderOut m
IsOrdered m gots.Answered = IsOrderOut m
IsOrdered m got = ⊤

-- What it comes for: an order that is out, or a state in which nothing was given away.
abbrev pub IsFrom : Got → (is_front : Bool) → ReadyCode → HeldState → CodeState ⊤ → Type 0
IsFrom (gots.Placed number trace) is_front c p s = IsOut is_front c p s
IsFrom (gots.Back value trace) is_front c p s = IsOut is_front c p s
IsFrom gots.Answered is_front c p s = IsOut is_front c p s
IsFrom got is_front c p s = StandsAt p s

-- the reply is that of the open call
abbrev pub HearsOpen : Got → CodeState ⊤ → Type 0
HearsOpen (gots.Heard call reply trace) s = s.frame.call ≡ Some call
HearsOpen got s = ⊤
