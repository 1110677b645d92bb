-- What is claimed of how a process of a checked program stands, and of its wants and answers: a want is there, for what the process
-- has; and what answers it is taken.
use Rattle.std.specs.Prelude.{◌≡◌, ◌↔◌, ◌⊎◌, ℕ, List, [], ◌∷◌, flat_map, nat_lt, Some, None, slice_get, option_and_then, IsTrue, IsFalse, ⊤}
use Rattle.herm_model.specs.Lists.{IsIn}
use Rattle.herm_model.specs.Calls.{led_to}
use Rattle.herm_model.specs.Nodes.{Node}
use Rattle.herm_model.specs.Targets.{Target, node, end, end_by}
use Rattle.herm_model.specs.Values.{Kind, a_callmessage, an_inport, an_outport, Cell, cell, no_parts}
use Rattle.herm_journal.specs.Actions.{gone, new_port, new_process, to_put, to_take, to_close, to_answer, to_hear}
use Rattle.herm_journal.specs.Messages.{CellWant, CellAction, is_inport, IsMessage, IsReplyTo}
use Rattle.herm_forms.specs.Acts.{is_action}
use Rattle.herm_forms.specs.Frames.{Name}
use Rattle.herm_forms.specs.Modules.{Module}
use Rattle.herm_forms.specs.Exchanges.{ports_at}
use Rattle.herm_forms.specs.Incoming.{ports_of}
use Rattle.herm_system.specs.Machines.{OpenCall, Standing, ended, out_of_steps, out_of_actions, waiting, local, acting, is_acting, greatest_actions}
use Rattle.herm_system.specs.Suiting.{Answers, Suits}
use Rattle.herm_system.specs.Kinds.{typed_held, kinds_by}
use Rattle.herm_source.specs.Modules.{Program, Modules}
use Rattle.herm_source.specs.States.{State, node_at}
use Rattle.herm_source.specs.Instance.{source, code_at}
use Rattle.herm_source.specs.Checked.{IsChecked}
use Rattle.herm_source.specs.laws.SoundProcesses.{IsSoundProcess}
use Rattle.herm_source.specs.laws.Standing.{new_type, first_type}

module _ (modules : Modules) (x : State Name) where
  -- a cell that the process holds at a place of a type
  abbrev pub HasAt : ℕ → Kind → Type 0
  HasAt t k = IsIn (t, k) (flat_map (typed_held modules.types) ((source modules).held x))

  -- the front of the work list is a cell of this kind
  abbrev pub IsFront : Kind → Type 0
  IsFront k = (name : Name) × (work : List (Cell Name)) × (x.frame.work ≡ cell name k no_parts ∷ work)

  -- these are the ports of its statement, in written order
  abbrev pub AreLookedAt : List ℕ → Type 0
  AreLookedAt ports = (c : Module) × (n : Node) × (code_at modules x ≡ Some c) × (node_at c x.point ≡ Some n) × (ports_at (ports_of n.form) x.frame ≡ Some ports)

  -- What a process wants a place for is what it has: a new port has an inport type, and so has the port of a module; a message is
  -- one of the port type to which the outport leads; the ports that it looks at are those of its statement, and of each it has the
  -- inport, of the type that it looks for; a port to close is at the front of what is to be finalised; a reply is one to the call
  -- whose callmessage it has, or nothing where that is at the front of what is to be finalised.
  -- Language reference, "Sound states".
  abbrev pub HasFor : CellWant Name → Type 0
  HasFor new_port = (t : ℕ) × (new_type modules x ≡ Some t) × IsTrue (is_inport (slice_get modules.types t))
  HasFor (new_process code) = (t : ℕ) × (first_type modules code ≡ Some t) × IsTrue (is_inport (slice_get modules.types t))
  HasFor (to_put n m) = (t u : ℕ) × HasAt t (an_outport n) × (option_and_then led_to (slice_get modules.types t) ≡ Some u) × IsMessage modules.types u m
  HasFor (to_take ports) = AreLookedAt ports × ((n : ℕ) → IsIn n ports → (t : ℕ) × ((source modules).port_type x n ≡ Some t) × HasAt t (an_inport n))
  HasFor (to_close n) = IsFront (an_inport n) × IsIn (an_inport n) (kinds_by (source modules) x)
  HasFor (to_answer caller call r) =
      (IsFront (a_callmessage caller call) × IsIn (a_callmessage caller call) (kinds_by (source modules) x) × (r ≡ gone)) ⊎ ((t : ℕ) × HasAt t (a_callmessage caller call) × IsReplyTo modules.types (Some t) r)
  HasFor to_hear = (call : OpenCall) × (t : ℕ) × ((source modules).open_call x ≡ Some call) × (call.call_type ≡ Some t)

abbrev pub IsEnd : Target → Type 0
IsEnd (node i) = ⊥
IsEnd end = ⊤
IsEnd (end_by e) = ⊤

module _ (c : Module) (limit : ℕ) (x : State Name) where
  -- nothing waits to be finalised, no call is open, and the process is at this node
  abbrev pub IsAtStatement : Node → Type 0
  IsAtStatement n = (x.frame.work ≡ []) × (x.frame.call ≡ None) × (node_at c x.point ≡ Some n)

  -- Something waits to be finalised, a call is open, or the statement is an action for which a step is left.
  abbrev pub IsActionNext : Type 0
  IsActionNext =
      ((item : Cell Name) × (work : List (Cell Name)) × (x.frame.work ≡ item ∷ work))
      ⊎ (((call : ℕ) × (x.frame.work ≡ []) × (x.frame.call ≡ Some call)) ⊎ ((n : Node) × IsAtStatement n × IsTrue (is_action c n.form) × IsTrue (nat_lt x.frame.steps limit)))

  -- What it means that a process stands so. Language reference, "Processes".
  abbrev pub StandsSo : Standing → Type 0
  StandsSo ended = (x.frame.work ≡ []) × IsEnd x.point
  StandsSo out_of_steps = (n : Node) × IsAtStatement n × IsFalse (nat_lt x.frame.steps limit)
  StandsSo out_of_actions = IsActionNext × IsFalse (nat_lt x.frame.actions greatest_actions)
  StandsSo waiting = ⊥
  StandsSo local = (n : Node) × IsAtStatement n × IsFalse (is_action c n.form) × IsTrue (nat_lt x.frame.steps limit)
  StandsSo acting = IsActionNext × IsTrue (nat_lt x.frame.actions greatest_actions)

-- Such a process stands exactly as its work list, its call, its point and its limits say. Where an action is next in it, a want is
-- there; each want is for what the process has; and each answer to it is taken where what comes in suits.
-- Language reference, "Sound states".
pub record ProcessesGoOn (program : Program) (modules : Modules) : Type 0 where
  pub stands : (limit : ℕ) (x : State Name) → IsSoundProcess program modules x → (c : Module) → code_at modules x ≡ Some c → (s : Standing) → ((source modules).ready limit x ≡ s) ↔ StandsSo c limit x s
  pub wants : (limit : ℕ) (x : State Name) → IsSoundProcess program modules x → IsTrue (is_acting ((source modules).ready limit x)) → (w : CellWant Name) × ((source modules).wanted x ≡ Some w)
  pub places : (x : State Name) (w : CellWant Name) → IsSoundProcess program modules x → (source modules).wanted x ≡ Some w → HasFor modules x w
  pub answers : (x : State Name) (w : CellWant Name) (at : ℕ) (a : CellAction Name) → IsSoundProcess program modules x → (source modules).wanted x ≡ Some w → Answers w a → Suits (source modules) x at a
      → (y : State Name) × ((source modules).answered x at a ≡ Some y)

abbrev pub CheckedProcessesGoOn : Type 0
CheckedProcessesGoOn = (exceptions : ℕ) (program : Program) (modules : Modules) → IsChecked exceptions program modules → ProcessesGoOn program modules
