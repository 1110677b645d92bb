-- What one process keeps of inports and callmessages that are not finalised.
use Rattle.std.specs.Prelude.{ℕ, ◌+◌, List, [], ◌∷◌, flat_map, Bool, Some, None, ◌≡◌, IsTrue}
use Rattle.herm_model.specs.Lists.{list_of}
use Rattle.herm_model.specs.Values.{Name, Kind, a_callmessage, an_inport, Cell}
use Rattle.herm_model.specs.Finalising.{waits}
use Rattle.herm_journal.specs.Actions.{new_process, to_put, to_close, to_answer, make_port, make_process, put, take, close, hear}
use Rattle.herm_journal.specs.Messages.{CellWant, CellAction, cells_in}
use Rattle.herm_system.specs.Machines.{OpenCall, Machine, inport_of}
use Rattle.herm_system.specs.Summary.{how_many}
use Rattle.herm_system.specs.Kinds.{kinds_of, kinds_by}
use Rattle.herm_system.specs.Suiting.{Answers}

-- The kinds of what comes in with an action: a message that comes back, one that was taken, those of a closed port, or a reply.
abbrev pub kinds_coming : {N : Type 0} → CellAction N → List Kind
kinds_coming (put None m) = kinds_of m
kinds_coming (take number m) = kinds_of m
kinds_coming (close count left) = flat_map kinds_of left
kinds_coming (hear call r) = flat_map kinds_of (cells_in r)
kinds_coming action = []

-- and of what goes out to a place, as the process wanted it; a process that is made takes its inport
abbrev pub kinds_going : {P : Type 0} → Machine Name P → P → CellWant Name → CellAction Name → List Kind
kinds_going machine x (to_put port m) action = kinds_of m
kinds_going machine x (to_answer caller call r) action = flat_map kinds_of (cells_in r)
kinds_going machine x (new_process code) (make_process code' (Some made)) = kinds_of (inport_of machine made.1 x)
kinds_going machine x want action = []

-- The inports and callmessages that a process makes with an action: the inport of a new port, that of a new process, and the
-- callmessage of a call that it then has open. Language reference, "Calls".
abbrev pub kinds_made : {P : Type 0} → Machine Name P → (behind : P) → CellAction Name → List Kind
kinds_made machine y (make_port (Some n)) = an_inport n ∷ []
kinds_made machine y (make_process code (Some made)) = an_inport made.1 ∷ []
kinds_made machine y (put (Some number) m) = list_of (λ (call : OpenCall). a_callmessage (machine.number y) call.number ∷ []) (machine.open_call y)
kinds_made machine y action = []

-- Those that it finalises with what it wants: the inport of a port that it closes, and a callmessage that it answers.
-- Language reference, "Finalising".
abbrev pub kinds_ended : {N : Type 0} → CellWant N → List Kind
kinds_ended (to_close n) = an_inport n ∷ []
kinds_ended (to_answer caller call r) = a_callmessage caller call ∷ []
kinds_ended want = []

-- it is of inports and callmessages alone
abbrev pub IsOfWaiting : (Kind → Bool) → Type 0
IsOfWaiting test = (k : Kind) → IsTrue (test k) → IsTrue (waits k)

-- How many inports and callmessages of a kind a process has that are not finalised, while it is as it should be: as it begins
-- those of its port; behind a local step as many as before; and behind an action those before, with what came in and what it
-- made, are those behind it, with what went out and what it ended. Language reference, "Sound states".
pub record KeepsCounts {P : Type 0} (machine : Machine Name P) (Is : P → Type 0) : Type 0 where
  pub begins : (test : Kind → Bool) → IsOfWaiting test → (code number : ℕ) (port : Cell Name) (x : P) → machine.begin code number port ≡ Some x
      → how_many test (kinds_by machine x) ≡ how_many test (kinds_of port)
  pub local_steps : (test : Kind → Bool) → IsOfWaiting test → (x y : P) → Is x → machine.local_step x ≡ Some y
      → how_many test (kinds_by machine y) ≡ how_many test (kinds_by machine x)
  pub answers : (test : Kind → Bool) → IsOfWaiting test → (x y : P) (want : CellWant Name) (at : ℕ) (a : CellAction Name) → Is x → machine.wanted x ≡ Some want → Answers want a
      → machine.answered x at a ≡ Some y
      → how_many test (kinds_by machine y) + how_many test (kinds_going machine x want a) + how_many test (kinds_ended want)
      ≡ how_many test (kinds_by machine x) + how_many test (kinds_coming a) + how_many test (kinds_made machine y a)
