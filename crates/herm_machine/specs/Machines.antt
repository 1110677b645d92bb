-- A process of an image as contracts see it, and the states of the machine of code for which it stands.
use Rattle.std.specs.Prelude.{◌≡◌, ◌⊎◌, ◌<◌, ℕ, List, length, Bool, true, false, Option, Some, None, option_and_then, option_map, ⊤}
use Rattle.herm_model.specs.Values.{Name, Value}
use Rattle.herm_journal.specs.Actions.{to_put, to_take, to_answer}
use Rattle.herm_journal.specs.Messages.{CellReply, CellWant}
use Rattle.herm_journal.specs.Renaming.{forget_name}
use Rattle.herm_system.specs.Machines.{Machine}
use Rattle.herm_forms.specs.Frames.{Frame, counted_action}
use Rattle.herm_instructions.specs.Images.{Image}
use Rattle.herm_code_machine.specs.CodeInstance.{code_at, nameless_code}
use Rattle.herm_code_machine.specs.CodeLocal.{IsSoundCodeIn}
use Rattle.herm_code_machine.specs.CodeRenaming.{forget_code}
use Rattle.herm_code_machine.specs.CodeStates.{CodeState}
use Rattle.herm_code_machine.specs.CodeSteps.{code_next, code_wanted, counted_if}
use Rattle.herm_code_machine.specs.ReadyCode.{ReadyCode, labelled_image}
use Rattle.herm_code_machine.specs.laws.GoodImageLaws.{IsGoodOver}
use Rattle.herm_pieces.specs.View.{ready_view}
use Rattle.herm_pieces.specs.declared.code.Code.{Code}
use Rattle.herm_exchanges.specs.Told.{told, want_view}
use Rattle.herm_exchanges.specs.declared.wants.Want.{Want}
use Rattle.herm_exchanges.specs.declared.wants.Want.TheVariants as wants
use Rattle.herm_steps.specs.Coming.{Coming, begins_with_step, coming, coming_item, end_view, ended_at, wants_nothing}
use Rattle.herm_steps.specs.declared.coming.Coming as found
use Rattle.herm_steps.specs.HeldStates.{HeldState}
use Rattle.herm_steps.specs.StandingAt.{StandsAt}
use Rattle.herm_answers.specs.Orders.{HoldsOrder}

-- Its code; where it is, its stack and its frame; the want whose message or reply was taken out, while its answer has not come,
-- and whether it is one of the front of the work list; and whether a call failed.
pub record MachineState : Type 0 where
  pub code : Code
  pub held : HeldState
  pub order : Option Want
  pub is_front : Bool
  pub is_dead : Bool

-- its code made ready
abbrev pub code_of : MachineState → ReadyCode
code_of m = ready_view m.code

-- a message or a reply goes there
abbrev pub gives_away : Want → Bool
gives_away (wants.Put port) = true
gives_away (wants.Answer caller call) = true
gives_away _ = false

-- An order is out: that of an action, or the answer to the callmessage at the front of the work list, with which nothing goes.
abbrev pub IsOut : (is_front : Bool) → ReadyCode → HeldState → CodeState ⊤ → Type 0
IsOut false c p s = HoldsOrder c p s
IsOut true c p s = StandsAt p s × (coming (code_next c s) ≡ coming_item)

-- no order is out, if it is not dead
abbrev pub IsInside : MachineState → Type 0
IsInside m = m.is_dead ≡ false → m.order ≡ None

-- an order is out, if it is not dead
abbrev pub IsOrderOut : MachineState → Type 0
IsOrderOut m = m.is_dead ≡ false → (want : Want) × (m.order ≡ Some want)

-- how a process ended, if it has, by an exception or not
abbrev pub end_of : ReadyCode → CodeState ⊤ → Option (Option ℕ)
end_of c s = ended_at (coming (code_next c s)) s.position

-- The frame as it is counted while an order is out: the action of a piece is counted when its message or reply goes out, with
-- the step of the piece; the answer for the front of the work list is counted when it comes.
abbrev pub counted_out : (is_front : Bool) → Coming → Frame ⊤ → Frame ⊤
counted_out true n b = b
counted_out false n b = counted_action (counted_if (begins_with_step n) b)

-- what is wanted is to put a message, to take one, to answer a call
abbrev pub IsPutWanted : Option (CellWant ⊤) → Type 0
IsPutWanted o = (port : ℕ) × (m : Value) × (o ≡ Some (to_put port m))

abbrev pub IsTakeWanted : (place : ℕ) → Option (CellWant ⊤) → Type 0
IsTakeWanted place o = (ports : List ℕ) × (o ≡ Some (to_take ports)) × (place < length ports)

abbrev pub IsAnswerWanted : Option (CellWant ⊤) → Type 0
IsAnswerWanted o = (caller call : ℕ) × (r : CellReply ⊤) × (o ≡ Some (to_answer caller call r))

module _ (image : Image) (main : ℕ) where
  -- the machine of the image's code, of values without names
  abbrev pub nameless : Machine ⊤ (CodeState ⊤)
  nameless = nameless_code (labelled_image image main)

  -- The state, without names, of a process of this code that is sound within itself, of an image whose code is good.
  -- Code reference, "Sound states of code".
  pub record IsSoundState (c : ReadyCode) (s : CodeState ⊤) : Type 0 where
    pub exceptions : ℕ
    pub good : IsGoodOver exceptions image
    pub named : CodeState Name
    pub same : forget_code named ≡ s
    pub code : code_at (labelled_image image main) named ≡ Some c
    pub sound : IsSoundCodeIn (labelled_image image main) named

  -- The process stands for the state, with no order out. Code reference, "Processes".
  pub record StandsFor (m : MachineState) (s : CodeState ⊤) : Type 0 where
    pub alive : m.is_dead ≡ false
    pub inside : m.order ≡ None
    pub sound : IsSoundState (code_of m) s
    pub stands : StandsAt m.held s

  -- The process has the order of the state's next action out: the message or the reply that it wants to give away.
  pub record HasOut (m : MachineState) (s : CodeState ⊤) : Type 0 where
    pub alive : m.is_dead ≡ false
    pub want : Want
    pub order : m.order ≡ Some want
    pub gives : gives_away want ≡ true
    pub wanted : option_and_then told (nameless.wanted s) ≡ Some (want_view want)
    pub sound : IsSoundState (code_of m) s
    pub out : IsOut m.is_front (code_of m) m.held s

  -- the one or the other
  abbrev pub IsAt : MachineState → CodeState ⊤ → Type 0
  IsAt m s = StandsFor m s ⊎ HasOut m s

  -- there is a state behind, for which it stands
  abbrev pub Reaches : MachineState → Option (CodeState ⊤) → Type 0
  Reaches m o = (t : CodeState ⊤) × (o ≡ Some t) × StandsFor m t

-- A process that is not dead is at a state of an image whose code is good, which is sound.
abbrev pub IsMachine : MachineState → Type 0
IsMachine m = m.is_dead ≡ false → (image : Image) × (main : ℕ) × (s : CodeState ⊤) × IsAt image main m s

-- nothing comes next
abbrev pub IsNothing : found.Coming → Type 0
IsNothing f = (f.end ≡ None) × ((f.has_step ≡ false) × (f.want ≡ None))

-- What was found to come next is what does, at each state at which the process stands.
pub record IsFound (f : found.Coming) (c : ReadyCode) (p : HeldState) : Type 0 where
  pub end : (s : CodeState ⊤) → StandsAt p s → option_map end_view f.end ≡ ended_at (coming (code_next c s)) s.position
  pub step : (s : CodeState ⊤) → StandsAt p s → f.has_step ≡ begins_with_step (coming (code_next c s))
  pub want : (s : CodeState ⊤) (w : CellWant ⊤) → StandsAt p s → code_wanted forget_name c s ≡ Some w → option_map want_view f.want ≡ told w
  pub nothing : (s : CodeState ⊤) → StandsAt p s → wants_nothing (coming (code_next c s)) ≡ true → f.want ≡ None

-- It is such a process; and what it found to come next does, while no order is out.
abbrev pub IsKeptMachine : found.Coming → MachineState → Type 0
IsKeptMachine f m = IsMachine m × (m.is_dead ≡ false → m.order ≡ None → IsFound f (code_of m) m.held)
