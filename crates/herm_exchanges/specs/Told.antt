-- What is told of a want: all but the message or the reply that goes.
use Rattle.std.specs.Prelude.{ℕ, suc, List, [], ◌∷◌, length, Option, Some, None, option_and_then, option_map, ⊤}
use Rattle.herm_model.specs.Paths.{Path}
use Rattle.herm_model.specs.Values.{cell_at}
use Rattle.herm_journal.specs.Actions.{new_port, new_process, to_put, to_take, to_close, to_answer, to_hear}
use Rattle.herm_journal.specs.Messages.{CellWant}
use Rattle.herm_forms.specs.Exchanges.{inport_at, outport_at}
use Rattle.herm_forms.specs.Frames.{Frame}
use Rattle.herm_forms.specs.ReturnForms.{caller_of}
use Rattle.herm_instructions.specs.Instructions.{Instruction, New, Send, Receive, Select, Call, Return, ReturnBy, Create}
use Rattle.herm_code_machine.specs.CodeActions.{ports_of_choices}
use Rattle.herm_exchanges.specs.declared.wants.Want.{Want}
use Rattle.herm_exchanges.specs.declared.wants.Want.TheVariants as wants

-- Of ports that are looked at the first is told, and how many they are.
pub data Told : Type 0 where
  a_port : Told
  a_process : (code : ℕ) → Told
  a_put : (port : ℕ) → Told
  a_take : (first count : ℕ) → Told
  a_close : (port : ℕ) → Told
  an_answer : (caller call : ℕ) → Told
  a_hearing : Told

-- Nothing is told of a want to take from no port, which no good code has. Code reference, "Pieces".
abbrev pub told : CellWant ⊤ → Option Told
told new_port = Some a_port
told (new_process code) = Some (a_process code)
told (to_put port m) = Some (a_put port)
told (to_take []) = None
told (to_take (port ∷ ports)) = Some (a_take port (suc (length ports)))
told (to_close port) = Some (a_close port)
told (to_answer caller call r) = Some (an_answer caller call)
told to_hear = Some a_hearing

abbrev pub want_view : Want → Told
want_view wants.MakePort = a_port
want_view (wants.MakeProcess code) = a_process code
want_view (wants.Put port) = a_put port.number
want_view (wants.Take ports) = a_take ports.first.number ports.count
want_view (wants.Close port) = a_close port.number
want_view (wants.Answer caller call) = an_answer caller.number call
want_view wants.Hear = a_hearing

-- the first of the ports at these paths, where it is, and how many they are
abbrev pub told_among : List Path → Frame ⊤ → Option Told
told_among [] b = None
told_among (i ∷ paths) b = option_map (λ port. a_take port (suc (length paths))) (inport_at i b)

-- the call whose callmessage is at this path
abbrev pub told_call : Path → Frame ⊤ → Option Told
told_call m b = option_map (λ (c : ℕ × ℕ). an_answer c.0 c.1) (option_and_then caller_of (cell_at m b.variables))

-- What is told of an instruction's want, whether or not what goes with it is there: nothing of one that is no action, nor where
-- there is no port, or no callmessage. Code reference, "Pieces".
abbrev pub told_of : Instruction → Frame ⊤ → Option Told
told_of (New x t) b = Some a_port
told_of (Send x o trim) b = option_map a_put (outport_at o b)
told_of (Receive x i) b = told_among (i ∷ []) b
told_of (Select choices) b = told_among (ports_of_choices choices) b
told_of (Call o arguments keeps) b = option_map a_put (outport_at o b)
told_of (Return m) b = told_call m b
told_of (ReturnBy m e kept) b = told_call m b
told_of (Create o n) b = Some (a_process n)
told_of _ b = None
