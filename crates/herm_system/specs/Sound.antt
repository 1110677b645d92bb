-- Sound states of the system.
use Rattle.std.specs.Prelude.{ℕ, suc, ◌+◌, List, Bool, cond, nat_eq, Some, slice_get, length, option_and_then, ◌≡◌, IsTrue}
use Rattle.herm_model.specs.Lists.{IsIn}
use Rattle.herm_model.specs.Calls.{led_to}
use Rattle.herm_model.specs.Values.{Name, a_callmessage, an_inport, an_outport, Cell}
use Rattle.herm_journal.specs.Ports.{Port, left_in}
use Rattle.herm_journal.specs.Messages.{CellReply, is_inport, IsMessage, IsReplyTo}
use Rattle.herm_system.specs.Machines.{OpenCall, Machine}
use Rattle.herm_system.specs.Systems.{System, numbered_from_one}
use Rattle.herm_system.specs.Ledger.{HasLedger, IsMadeOnce}
use Rattle.herm_system.specs.Summary.{how_many}
use Rattle.herm_system.specs.Kinds.{unfinalised, typed_cells, replies_of, is_inport_of, is_callmessage_of, has_open, is_open_port}

abbrev pub one_if : Bool → ℕ
one_if b = cond b 1 0

-- the number of the type `console`, which is predefined
abbrev pub console_type : ℕ
console_type = 4

-- a process of this number runs a module that there is
abbrev pub RunsModule : {P : Type 0} → Machine Name P → ℕ → P → Type 0
RunsModule {P} machine p x = (port : Cell Name) × (first : P) × (machine.begin (machine.module_number x) p port ≡ Some first)

-- Numbers agree: a process has its number, its module and a reply cell, and the book counts what was made.
pub record IsNumbered {P : Type 0} (machine : Machine Name P) (s : System P) : Type 0 where
  pub processes : (p : ℕ) (x : P) → numbered_from_one p s.processes ≡ Some x → (machine.number x ≡ p) × RunsModule machine p x
  pub reply_cells : length s.replies ≡ length s.processes
  pub book : (length s.processes ≡ s.book.processes) × (length s.ports ≡ suc s.book.ports)

-- Ports: each has an inport type, the console's is `console`, and one inport cell that is not finalised exactly where it is
-- open; what stands at a typed place agrees with the ports' types. Language reference, "Sound states".
pub record HasPorts {P : Type 0} (machine : Machine Name P) (ports : List ℕ) (s : System P) : Type 0 where
  pub types : length ports ≡ length s.ports
  pub inport_types : (n t : ℕ) → slice_get ports n ≡ Some t → IsTrue (is_inport (slice_get machine.types t))
  pub console : slice_get ports 0 ≡ Some console_type
  pub inports : (n : ℕ) → how_many (is_inport_of n) (unfinalised machine s) ≡ one_if (is_open_port s n)
  pub inports_stand : (t n : ℕ) → IsIn (t, an_inport n) (typed_cells machine ports s) → slice_get ports n ≡ Some t
  pub outports_stand : (t n : ℕ) → IsIn (t, an_outport n) (typed_cells machine ports s) → (u : ℕ) × (option_and_then led_to (slice_get machine.types t) ≡ Some u) × (slice_get ports n ≡ Some u)

-- Calls: for each open call either one callmessage cell is not finalised or one reply is there, and for no other; and
-- a callmessage at a typed place is of its call's type. Language reference, "Sound states".
pub record HasCalls {P : Type 0} (machine : Machine Name P) (ports : List ℕ) (s : System P) : Type 0 where
  pub answers : (p k : ℕ) → how_many (is_callmessage_of p k) (unfinalised machine s) + how_many (λ r. nat_eq r.0 k) (replies_of s p) ≡ one_if (has_open machine s p k)
  pub callmessages_stand : (t p k : ℕ) → IsIn (t, a_callmessage p k) (typed_cells machine ports s) →
      (x : P) × (call : OpenCall) × (numbered_from_one p s.processes ≡ Some x) × (machine.open_call x ≡ Some call) × (call.number ≡ k) × (call.call_type ≡ Some t)

-- A sound state, where the ports have these types, and where this is what is sound within one process.
-- Language reference, "Sound states".
pub record IsSoundWith {P : Type 0} (machine : Machine Name P) (IsSoundWithin : P → Type 0) (port_types : List ℕ) (s : System P) : Type 0 where
  pub processes : (p : ℕ) (x : P) → numbered_from_one p s.processes ≡ Some x → IsSoundWithin x
  pub messages : (n t : ℕ) (port : Port (Cell Name)) (m : Cell Name) → slice_get port_types n ≡ Some t → slice_get s.ports n ≡ Some port → IsIn m (left_in port) → IsMessage machine.types t m
  pub replies : (p : ℕ) (x : P) (call : OpenCall) (r : ℕ × CellReply Name) →
      numbered_from_one p s.processes ≡ Some x → machine.open_call x ≡ Some call → IsIn r (replies_of s p) → IsReplyTo machine.types call.call_type r.1
  pub ledger : HasLedger machine s
  pub once : IsMadeOnce machine s
  pub ports : HasPorts machine port_types s
  pub calls : HasCalls machine port_types s
  pub numbers : IsNumbered machine s

abbrev pub IsSoundFor : {P : Type 0} → Machine Name P → (P → Type 0) → System P → Type 0
IsSoundFor machine IsSoundWithin s = (port_types : List ℕ) × IsSoundWith machine IsSoundWithin port_types s
