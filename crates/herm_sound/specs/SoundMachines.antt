-- What a machine is to meet, of one process, so that each step of its systems keeps a sound state sound.
use Rattle.std.specs.Prelude.{◌≡◌, ◌⊎◌, ◌<◌, ◌≤◌, ℕ, suc, ◌+◌, Bool, List, [], ◌∷◌, Option, Some, None, slice_get, option_and_then, IsTrue}
use Rattle.herm_model.specs.Lists.{IsIn}
use Rattle.herm_model.specs.Calls.{led_to}
use Rattle.herm_model.specs.Typed.{is_text}
use Rattle.herm_model.specs.Values.{Name, Kind, a_callmessage, an_inport, an_outport, Cell, cell, no_parts}
use Rattle.herm_journal.specs.Actions.{gone, new_port, new_process, to_put, to_take, to_close, to_answer, to_hear, put, hear}
use Rattle.herm_journal.specs.Entries.{Text}
use Rattle.herm_journal.specs.Messages.{CellWant, CellAction, is_inport, message_of_port, IsMessage, IsReplyTo}
use Rattle.herm_system.specs.Machines.{OpenCall, Machine, is_local, is_acting, greatest_actions}
use Rattle.herm_system.specs.Systems.{first_message, main_port}
use Rattle.herm_system.specs.Kinds.{kinds_by, typed_of}
use Rattle.herm_system.specs.Sound.{console_type}
use Rattle.herm_system.specs.Suiting.{Answers, Suits}
use Rattle.herm_runs.specs.Counting.{IsOfWaiting, kinds_coming, kinds_going, kinds_made, kinds_ended}
use Rattle.herm_system.specs.Summary.{how_many}
use Rattle.herm_runs.specs.laws.ProcessLaws.{KeepsNumbers, KeepsLedger}
use Rattle.herm_sound.specs.Standing.{at_type, AllStand, OutportsStand, typed_places, typed_coming, typed_made, typed_going}

module _ {P : Type 0} (machine : Machine Name P) where
  -- An open call is opened by a message that is placed, closed by a reply that is heard, and by nothing else.
  -- Language reference, "Calls".
  abbrev pub CallMoves : (before behind : P) → CellAction Name → Type 0
  CallMoves x y (put (Some number) m) = machine.open_call x ≡ None
  CallMoves x y (hear k r) = machine.open_call y ≡ None
  CallMoves x y a = machine.open_call y ≡ machine.open_call x

  module _ (first_type : ℕ → Option ℕ) (new_type : P → Option ℕ) where
    -- What a process wants a place for is what it has, where the ports of modules and the inports that it makes have these types: a new
    -- port has an inport type, and so has the port of a module that there is; a message is one of the port type to which the outport
    -- leads; of each port that it looks at it has the inport, of the type that it looks for; a port to close is one whose inport it has;
    -- a reply is one to a call whose callmessage it has, or nothing; and it hears where it has a call open.
    -- Language reference, "Sound states".
    abbrev pub HasFor : P → CellWant Name → Type 0
    HasFor x new_port = (t : ℕ) × (new_type x ≡ Some t) × IsTrue (is_inport (slice_get machine.types t))
    HasFor x (new_process code) =
        (t : ℕ) × (first_type code ≡ Some t) × IsTrue (is_inport (slice_get machine.types t)) × ((number port : ℕ) (n : Name) → (z : P) × (machine.begin code number (cell n (an_inport port) no_parts) ≡ Some z))
    HasFor x (to_put n m) =
        (t u : ℕ) × IsIn (t, an_outport n) (typed_places machine x) × (option_and_then led_to (slice_get machine.types t) ≡ Some u) × IsMessage machine.types u m
    HasFor x (to_take ports) = (n : ℕ) → IsIn n ports → (t : ℕ) × (machine.port_type x n ≡ Some t) × IsIn (t, an_inport n) (typed_places machine x)
    HasFor x (to_close n) = IsIn (an_inport n) (kinds_by machine x)
    HasFor x (to_answer caller call r) =
        (IsIn (a_callmessage caller call) (kinds_by machine x) × (r ≡ gone)) ⊎ ((t : ℕ) × IsIn (t, a_callmessage caller call) (typed_places machine x) × IsReplyTo machine.types (Some t) r)
    HasFor x to_hear = (call : OpenCall) × (machine.open_call x ≡ Some call)

    -- Where ports and the callmessages of calls have these types: a process begins with its cells, and the outports among the values that
    -- it has beside them, at places of their types where its port is of its module's type. So it stays along local steps, and along each
    -- answer to what it wants, where what comes in suits and stands so, and what it makes; and what goes out stands so too.
    pub record KeepsStanding (Is : P → Type 0) (beside : P → List (ℕ × Kind)) (ports : List ℕ) (calls : ℕ → ℕ → Option ℕ) : Type 0 where
      pub begins : (code number port : ℕ) (n : Name) (x : P) → machine.begin code number (cell n (an_inport port) no_parts) ≡ Some x
          → AllStand machine.types ports calls (at_type (an_inport port) (first_type code)) → AllStand machine.types ports calls (typed_places machine x) × OutportsStand machine.types ports (beside x)
      pub local_steps : (x y : P) → Is x → machine.local_step x ≡ Some y → AllStand machine.types ports calls (typed_places machine x) → OutportsStand machine.types ports (beside x)
          → AllStand machine.types ports calls (typed_places machine y) × OutportsStand machine.types ports (beside y)
      pub answers : (x y : P) (want : CellWant Name) (at : ℕ) (a : CellAction Name) → Is x → machine.wanted x ≡ Some want → Answers want a → Suits machine x at a → machine.answered x at a ≡ Some y
          → AllStand machine.types ports calls (typed_places machine x) → OutportsStand machine.types ports (beside x) → AllStand machine.types ports calls (typed_coming machine x at a)
          → AllStand machine.types ports calls (typed_made machine first_type new_type x y a)
          → AllStand machine.types ports calls (typed_places machine y) × OutportsStand machine.types ports (beside y) × AllStand machine.types ports calls (typed_going machine.types ports calls want a)

  -- What is sound within a process holds of each that begins with the inport of a port, and stays along local steps and along each
  -- answer to what it wants, where what comes in suits. A process begins with no call open, and calls open and close as they may.
  pub record StaysSound (Is : P → Type 0) : Type 0 where
    pub begins : (code number port : ℕ) (n : Name) (x : P) → machine.begin code number (cell n (an_inport port) no_parts) ≡ Some x → Is x × (machine.open_call x ≡ None)
    pub local_steps : (x y : P) → Is x → machine.local_step x ≡ Some y → Is y × (machine.open_call y ≡ machine.open_call x)
    pub answers : (x y : P) (want : CellWant Name) (at : ℕ) (a : CellAction Name) → Is x → machine.wanted x ≡ Some want → Answers want a → Suits machine x at a → machine.answered x at a ≡ Some y
        → Is y × CallMoves x y a

  -- How many inports and callmessages of a kind a process has that are not finalised, as it begins with the inport of a port, and while it
  -- is sound within itself: as KeepsCounts says, where what comes in with an answer suits. Language reference, "Sound states".
  pub record KeepsWaiting (Is : P → Type 0) : Type 0 where
    pub begins : (test : Kind → Bool) → IsOfWaiting test → (code number port : ℕ) (n : Name) (x : P) → machine.begin code number (cell n (an_inport port) no_parts) ≡ Some x
        → how_many test (kinds_by machine x) ≡ how_many test (an_inport port ∷ [])
    pub local_steps : (test : Kind → Bool) → IsOfWaiting test → (x y : P) → Is x → machine.local_step x ≡ Some y
        → how_many test (kinds_by machine y) ≡ how_many test (kinds_by machine x)
    pub answers : (test : Kind → Bool) → IsOfWaiting test → (x y : P) (want : CellWant Name) (at : ℕ) (a : CellAction Name) → Is x → machine.wanted x ≡ Some want → Answers want a → Suits machine x at a
        → machine.answered x at a ≡ Some y
        → how_many test (kinds_by machine y) + how_many test (kinds_going machine x want a) + how_many test (kinds_ended want)
        ≡ how_many test (kinds_by machine x) + how_many test (kinds_coming a) + how_many test (kinds_made machine y a)

  -- A machine of which each step of a system keeps a sound state sound.
  pub record KeepsSound (Is : P → Type 0) : Type 0 where
    -- the types of the ports of modules, and of the inport that a process makes next; and the values that a process has beside its cells,
    -- with the types of their places
    pub first_type : ℕ → Option ℕ
    pub new_type : P → Option ℕ
    pub beside : P → List (ℕ × Kind)
    pub numbers : KeepsNumbers machine
    pub ledger : KeepsLedger machine
    pub counts : KeepsWaiting Is
    pub processes : StaysSound Is
    pub wants : (x : P) (want : CellWant Name) → Is x → machine.wanted x ≡ Some want → HasFor first_type new_type x want
    pub standing : (ports : List ℕ) (calls : ℕ → ℕ → Option ℕ) → KeepsStanding first_type new_type Is beside ports calls

  -- A system begins with a process of main, whose port is of an inport type of which the first message with a text is one, with its
  -- cells at places of their types; and the console's type is an inport type. Language reference, "Opening state".
  pub record BeginsSound (first_type : ℕ → Option ℕ) : Type 0 where
    pub main : (x : P) × (machine.begin machine.main 1 main_port ≡ Some x)
    pub port_type : ℕ
    pub types : first_type machine.main ≡ Some port_type
    pub inport : IsTrue (is_inport (slice_get machine.types port_type))
    pub console : IsTrue (is_inport (slice_get machine.types console_type))
    pub message : (argument : Text) → IsTrue (is_text argument) → IsMessage machine.types port_type (first_message argument)
    pub stands : (argument : Text) (u : ℕ) → message_of_port machine.types port_type ≡ Some u
        → AllStand machine.types (console_type ∷ port_type ∷ []) (λ caller call. None) (typed_of machine.types u (first_message argument))

  -- A process that is sound within itself goes on: a local step that is next is there; where an action is next something is wanted;
  -- and each answer to it is taken, where what comes in suits. Language reference, "Sound states".
  pub record GoesOn (Is : P → Type 0) : Type 0 where
    pub local_steps : (limit : ℕ) (x : P) → Is x → IsTrue (is_local (machine.ready limit x)) → (y : P) × (machine.local_step x ≡ Some y)
    pub wants : (limit : ℕ) (x : P) → Is x → IsTrue (is_acting (machine.ready limit x)) → (want : CellWant Name) × (machine.wanted x ≡ Some want)
    pub answers : (x : P) (want : CellWant Name) (at : ℕ) (a : CellAction Name) → Is x → machine.wanted x ≡ Some want → Answers want a → Suits machine x at a → (y : P) × (machine.answered x at a ≡ Some y)

  -- Steps and actions are counted from 0 on, and none is made beyond its limit. Language reference, "Limits of a run".
  pub record KeepsLimits : Type 0 where
    pub begins : (code number : ℕ) (port : Cell Name) (x : P) → machine.begin code number port ≡ Some x → (machine.steps x ≡ 0) × (machine.actions x ≡ 0)
    pub local_steps : (limit : ℕ) (x y : P) → IsTrue (is_local (machine.ready limit x)) → machine.local_step x ≡ Some y
        → (machine.steps y ≡ suc (machine.steps x)) × (machine.actions y ≡ machine.actions x) × (machine.steps x < limit)
    pub answers : (limit : ℕ) (x y : P) (at : ℕ) (a : CellAction Name) → IsTrue (is_acting (machine.ready limit x)) → machine.answered x at a ≡ Some y
        → (machine.actions y ≡ suc (machine.actions x)) × (machine.actions x < greatest_actions) × (machine.steps x ≤ machine.steps y) × (machine.steps x ≤ limit → machine.steps y ≤ limit)

  -- Calls are numbered upwards: a process has made so many, and a call that it opens has a number that is not below these and below how
  -- many it has made then. Language reference, "Calls".
  pub record NumbersCalls : Type 0 where
    pub calls : P → ℕ
    pub local_steps : (x y : P) → machine.local_step x ≡ Some y → calls x ≤ calls y
    pub answers : (x y : P) (at : ℕ) (a : CellAction Name) → machine.answered x at a ≡ Some y → calls x ≤ calls y
    pub opens : (x y : P) (at number : ℕ) (m : Cell Name) (call : OpenCall) → machine.answered x at (put (Some number) m) ≡ Some y → machine.open_call y ≡ Some call → (calls x ≤ call.number) × (call.number < calls y)
