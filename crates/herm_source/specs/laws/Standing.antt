-- What is claimed of the places of inports, outports and callmessages as processes begin, take answers and send.
use Rattle.std.specs.Prelude.{◌≡◌, ℕ, List, [], ◌∷◌, flat_map, Option, Some, None, slice_get, option_and_then}
use Rattle.herm_model.specs.Lists.{IsIn, list_of}
use Rattle.herm_model.specs.Types.{TypeTable, type_at}
use Rattle.herm_model.specs.Statements.{Form, New}
use Rattle.herm_model.specs.Nodes.{Node}
use Rattle.herm_model.specs.Values.{Kind, a_callmessage, an_inport, cell, no_parts}
use Rattle.herm_journal.specs.Actions.{to_put, to_answer, make_port, make_process, put, take, hear}
use Rattle.herm_journal.specs.Messages.{CellWant, CellAction, cells_in, message_of_port, types_of_reply}
use Rattle.herm_forms.specs.Frames.{Name}
use Rattle.herm_forms.specs.Modules.{Module}
use Rattle.herm_system.specs.Machines.{OpenCall}
use Rattle.herm_system.specs.Suiting.{Answers, Suits}
use Rattle.herm_system.specs.Kinds.{typed_of, typed_list, typed_held}
use Rattle.herm_source.specs.Modules.{Program, Modules}
use Rattle.herm_source.specs.States.{State, node_at}
use Rattle.herm_source.specs.Instance.{source, code_at}
use Rattle.herm_source.specs.laws.PlaceLaws.{StandsAt}
use Rattle.herm_source.specs.Checked.{IsChecked}
use Rattle.herm_source.specs.laws.SoundProcesses.{IsSoundProcess}

-- the type of the value that `new` makes at a process's point, and the type of the port of a module
abbrev pub type_made : Module → Form → Option ℕ
type_made c (New x) = type_at c.types c.variables x
type_made c _ = None

abbrev pub new_type : Modules → State Name → Option ℕ
new_type modules x = option_and_then (λ c. option_and_then (λ (n : Node). type_made c n.form) (node_at c x.point)) (code_at modules x)

abbrev pub first_type : Modules → (code : ℕ) → Option ℕ
first_type modules code = option_and_then (λ (c : Module). slice_get c.variables 0) (slice_get modules.codes code)

-- one cell at a place, where its type is known
abbrev pub at_type : Kind → Option ℕ → List (ℕ × Kind)
at_type k t = list_of (λ t. (t, k) ∷ []) t

-- What a process makes with an action, each with its type: the inport of a new port, that of a new process, and the
-- callmessage of a call that it then has open. Language reference, "Calls".
abbrev pub typed_made : Modules → (before behind : State Name) → CellAction Name → List (ℕ × Kind)
typed_made modules x y (make_port (Some n)) = at_type (an_inport n) (new_type modules x)
typed_made modules x y (make_process code (Some made)) = at_type (an_inport made.1) (first_type modules code)
typed_made modules x y (put (Some number) m) = list_of (λ (call : OpenCall). at_type (a_callmessage y.frame.number call.number) call.call_type) ((source modules).open_call y)
typed_made modules x y action = []

-- what comes in with an action at a place: a message by the type of its port, or a reply by that of its call
abbrev pub typed_coming : Modules → State Name → (at : ℕ) → CellAction Name → List (ℕ × Kind)
typed_coming modules x at (take number m) = list_of (λ t. typed_of modules.types t m) (option_and_then (message_of_port modules.types) ((source modules).port_type x at))
typed_coming modules x at (hear k r) = list_of (λ (call : OpenCall). typed_list modules.types (types_of_reply modules.types call.call_type r) (cells_in r)) ((source modules).open_call x)
typed_coming modules x at action = []

-- what goes out, where ports and the callmessages of calls have these types: a message that is placed, or a reply
abbrev pub typed_going : TypeTable → (ports : List ℕ) → (calls : ℕ → ℕ → Option ℕ) → CellWant Name → CellAction Name → List (ℕ × Kind)
typed_going types ports calls (to_put n m) (put (Some number) m') = list_of (λ t. list_of (λ u. typed_of types u m) (message_of_port types t)) (slice_get ports n)
typed_going types ports calls (to_answer caller call r) a = list_of (λ t. typed_list types (types_of_reply types (Some t) r) (cells_in r)) (calls caller call)
typed_going types ports calls want a = []

module _ (modules : Modules) (ports : List ℕ) (calls : ℕ → ℕ → Option ℕ) where
  -- each inport, outport and callmessage among them stands at a place of its type
  abbrev pub AllStand : List (ℕ × Kind) → Type 0
  AllStand xs = (t : ℕ) (k : Kind) → IsIn (t, k) xs → StandsAt modules.types ports calls t k

  -- and among all that a process holds
  abbrev pub HoldsStanding : State Name → Type 0
  HoldsStanding x = AllStand (flat_map (typed_held modules.types) ((source modules).held x))

  -- A process begins so where its port is of its module's type. Along an answer to what it wants, where what comes in suits and
  -- stands so, and what it makes, it stays so, and what goes out stands so too. Language reference, "Sound states".
  pub record ProcessesKeepStanding (program : Program) : Type 0 where
    pub begins : (code number port : ℕ) (n : Name) (x : State Name) → (source modules).begin code number (cell n (an_inport port) no_parts) ≡ Some x → AllStand (at_type (an_inport port) (first_type modules code)) → HoldsStanding x
    pub local_steps : (x y : State Name) → (source modules).local_step x ≡ Some y → IsSoundProcess program modules x → HoldsStanding x → HoldsStanding y
    pub answers : (x y : State Name) (want : CellWant Name) (at : ℕ) (a : CellAction Name) → (source modules).wanted x ≡ Some want → Answers want a → Suits (source modules) x at a → (source modules).answered x at a ≡ Some y
        → IsSoundProcess program modules x → HoldsStanding x → AllStand (typed_coming modules x at a) → AllStand (typed_made modules x y a)
        → HoldsStanding y × AllStand (typed_going modules.types ports calls want a)

abbrev pub CheckedProcessesKeepStanding : Type 0
CheckedProcessesKeepStanding = (exceptions : ℕ) (program : Program) (modules : Modules) → IsChecked exceptions program modules → (ports : List ℕ) (calls : ℕ → ℕ → Option ℕ) → ProcessesKeepStanding modules ports calls program
