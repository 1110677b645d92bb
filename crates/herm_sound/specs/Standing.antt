-- Inports, outports and callmessages at places of their types: of what a process makes, of what comes to it and of what it gives.
use Rattle.std.specs.Prelude.{◌≡◌, ℕ, List, [], ◌∷◌, flat_map, Option, Some, slice_get, option_and_then, ⊤}
use Rattle.herm_model.specs.Lists.{IsIn, list_of}
use Rattle.herm_model.specs.Calls.{led_to}
use Rattle.herm_model.specs.Types.{TypeTable}
use Rattle.herm_model.specs.Values.{Name, Kind, a_callmessage, an_inport, an_outport}
use Rattle.herm_journal.specs.Actions.{to_put, to_answer, make_port, make_process, put, take, hear}
use Rattle.herm_journal.specs.Messages.{CellWant, CellAction, cells_in, message_of_port, types_of_reply}
use Rattle.herm_system.specs.Machines.{OpenCall, Machine}
use Rattle.herm_system.specs.Kinds.{typed_of, typed_list, typed_held}

-- one cell at a place, where its type is known
abbrev pub at_type : Kind → Option ℕ → List (ℕ × Kind)
at_type k t = list_of (λ t. (t, k) ∷ []) t

-- The types of ports, where ports and the callmessages of calls have these: an inport stands at a place of its port's type, an
-- outport at a place whose type leads to its port's, and a callmessage at a place of its call's.
-- Language reference, "Sound states".
module _ (types : TypeTable) (ports : List ℕ) (calls : ℕ → ℕ → Option ℕ) where
  abbrev pub StandsAt : ℕ → Kind → Type 0
  StandsAt t (an_inport n) = slice_get ports n ≡ Some t
  StandsAt t (an_outport n) = (u : ℕ) × (option_and_then led_to (slice_get types t) ≡ Some u) × (slice_get ports n ≡ Some u)
  StandsAt t (a_callmessage caller call) = calls caller call ≡ Some t
  StandsAt t k = ⊤

  abbrev pub AllStand : List (ℕ × Kind) → Type 0
  AllStand xs = (t : ℕ) (k : Kind) → IsIn (t, k) xs → StandsAt t k

-- Of values that are no cells only outports are of ports: each stands at a place whose type leads to its port's.
-- Language reference, "Sound states".
abbrev pub OutportsStand : TypeTable → (ports : List ℕ) → List (ℕ × Kind) → Type 0
OutportsStand types ports xs = (t n : ℕ) → IsIn (t, an_outport n) xs → (u : ℕ) × (option_and_then led_to (slice_get types t) ≡ Some u) × (slice_get ports n ≡ Some u)

-- a process that has no values but its cells
abbrev pub cells_alone : {P : Type 0} → P → List (ℕ × Kind)
cells_alone x = []

-- What goes out with an action: a message that is placed, or a reply, each cell with the type of its place.
abbrev pub typed_going : TypeTable → (ports : List ℕ) → (calls : ℕ → ℕ → Option ℕ) → CellWant Name → CellAction Name → List (ℕ × Kind)
typed_going types ports calls (to_put n m) (put (Some number) m') = list_of (λ t. list_of (λ u. typed_of types u m) (message_of_port types t)) (slice_get ports n)
typed_going types ports calls (to_answer caller call r) a = list_of (λ t. typed_list types (types_of_reply types (Some t) r) (cells_in r)) (calls caller call)
typed_going types ports calls want a = []

module _ {P : Type 0} (machine : Machine Name P) where
  -- all that a process holds at places with types
  abbrev pub typed_places : P → List (ℕ × Kind)
  typed_places x = flat_map (typed_held machine.types) (machine.held x)

  -- What comes in with an action at a place: a message by the type of its port, or a reply by that of its call.
  abbrev pub typed_coming : P → (at : ℕ) → CellAction Name → List (ℕ × Kind)
  typed_coming x at (take number m) = list_of (λ t. typed_of machine.types t m) (option_and_then (message_of_port machine.types) (machine.port_type x at))
  typed_coming x at (hear k r) = list_of (λ (call : OpenCall). typed_list machine.types (types_of_reply machine.types call.call_type r) (cells_in r)) (machine.open_call x)
  typed_coming x at action = []

  -- What a process makes with an action, where the ports of modules and the inports that it makes have these types: the inport of a
  -- new port, that of a new process, and the callmessage of a call that it then has open. Language reference, "Calls".
  abbrev pub typed_made : (first_type : ℕ → Option ℕ) → (new_type : P → Option ℕ) → (before behind : P) → CellAction Name → List (ℕ × Kind)
  typed_made first_type new_type x y (make_port (Some n)) = at_type (an_inport n) (new_type x)
  typed_made first_type new_type x y (make_process code (Some made)) = at_type (an_inport made.1) (first_type code)
  typed_made first_type new_type x y (put (Some number) m) = list_of (λ (call : OpenCall). at_type (a_callmessage (machine.number y) call.number) call.call_type) (machine.open_call y)
  typed_made first_type new_type x y action = []
