-- A process with its diary as contracts see it, and the states of the machine of code for which it stands.
use Rattle.std.specs.Prelude.{◌≡◌, ◌⊎◌, ◌≤◌, ◌++◌, ◌∷◌, [], ℕ, List, Bool, true, false, Option, Some, None, ⊤}
use Rattle.herm_model.specs.Values.{an_inport}
use Rattle.herm_journal.specs.Entries.{Entry, recorded}
use Rattle.herm_journal.specs.Messages.{CellAction, CellWant}
use Rattle.herm_system.specs.Machines.{acting, local, greatest_actions}
use Rattle.herm_system.specs.Suiting.{Suits}
use Rattle.herm_system.specs.Systems.{number_of}
use Rattle.herm_waking.specs.DiaryKept.{AreLater, clock_behind, IsAtDiary}
use Rattle.herm_instructions.specs.Images.{Image}
use Rattle.herm_code_machine.specs.CodeStates.{CodeState}
use Rattle.herm_values.specs.View.{leaf}
use Rattle.herm_exchanges.specs.declared.wants.Want.{Want}
use Rattle.herm_machine.specs.Gots.{FitsWant}
use Rattle.herm_machine.specs.Machines.{MachineState, IsAt, Reaches, StandsFor, nameless}
use Rattle.herm_machine.specs.declared.order.Order.{Order}
use Rattle.herm_machine.specs.declared.order.Got.{Got}
use Rattle.herm_process.specs.Entries.{IsFor, IsOrderOf, action_of, gives_away, place_of}
use Rattle.herm_process.specs.Sums.{Remembers}
use Rattle.herm_process.specs.declared.birth.Birth.{Birth}
use Rattle.herm_process.specs.declared.ordered.Ordered.{Ordered}

-- Its machine; its number, module, first port and birth; its limit of steps; its clock and its diary; the order that was
-- prepared, while its answer has not come; and whether a call failed.
pub record ProcessState : Type 0 where
  pub machine : MachineState
  pub number : ℕ
  pub module_number : ℕ
  pub first : ℕ
  pub birth : Birth
  pub limit : ℕ
  pub clock : ℕ
  pub diary : List Entry
  pub ordered : Option Ordered
  pub is_dead : Bool

-- a message or a reply was taken out of the machine where the order gives one away, and else none
abbrev pub IsOutAs : Option Ordered → Option Want → Type 0
IsOutAs None order = order ≡ None
IsOutAs (Some o) order = elim (gives_away o) [ true ↦ (want : Want) × (order ≡ Some want) | false ↦ order ≡ None ]

module _ (image : Image) (main : ℕ) where
  -- Where an order was prepared an action is next, the order is for what is wanted, and the sums that it remembers are the state's.
  abbrev pub IsPrepared : Option Ordered → (limit : ℕ) → CodeState ⊤ → Type 0
  IsPrepared None limit x = ⊤
  IsPrepared (Some o) limit x = ((nameless image main).ready limit x ≡ acting) × (w : CellWant ⊤) × ((nameless image main).wanted x ≡ Some w) × IsFor o w × Remembers (nameless image main) x o

  -- There is something wanted, the order is for it, and what is remembered too; the machine is still at the state, with what went out.
  pub record Orders (new : MachineState) (given : Order) (o : Ordered) (s : CodeState ⊤) : Type 0 where
    pub want : CellWant ⊤
    pub wanted : (nameless image main).wanted s ≡ Some want
    pub order : IsOrderOf given want
    pub remembered : IsFor o want
    pub sums : Remembers (nameless image main) s o
    pub at : IsAt image main new s
    pub out : IsOutAs (Some o) new.order

  -- the machine went on with what suits; what does not suit was put aside
  abbrev pub IsTakenIn : (new : MachineState) → CodeState ⊤ → (at : ℕ) → CellAction ⊤ → Type 0
  IsTakenIn new s at a =
      (Suits (nameless image main) s at a × Reaches image main new ((nameless image main).answered s at a)) ⊎ ((Suits (nameless image main) s at a → ⊥) × StandsFor image main new ((nameless image main).put_aside s))

  -- The process stands for this state, with what its order holds: its machine does; the state is that behind its diary, from the
  -- state in which the process of its number, its module and its first port begins, born at its birth's stamp; its limits are
  -- kept; and its order is for what is wanted there. Language reference, "Diaries".
  pub record IsProcess (p : ProcessState) (x : CodeState ⊤) : Type 0 where
    pub alive : p.is_dead ≡ false
    pub at : IsAt image main p.machine x
    pub first : CodeState ⊤
    pub begins : (nameless image main).begin p.module_number p.number (leaf (an_inport p.first)) ≡ Some first
    pub diary : IsAtDiary (nameless image main) p.limit p.number p.birth.stamp.0 first x p.diary p.clock
    pub number : (nameless image main).number x ≡ p.number
    pub steps : (nameless image main).steps x ≤ p.limit
    pub actions : (nameless image main).actions x ≤ greatest_actions
    pub prepared : IsPrepared p.ordered p.limit x
    pub out : IsOutAs p.ordered p.machine.order

  -- there is a state behind, for which it stands
  abbrev pub Comes : ProcessState → Option (CodeState ⊤) → Type 0
  Comes p o = (y : CodeState ⊤) × (o ≡ Some y) × IsProcess p y

  -- What it got for what it wanted is its action at a place, which its diary has behind all else. Where it suits, the process
  -- stands for the state behind the answer; else it is put aside, and counted. Language reference, "Diaries".
  pub record IsSettled (old new : ProcessState) (x : CodeState ⊤) (got : Got) (w : CellWant ⊤) (stamp : ℕ) : Type 0 where
    pub action : CellAction ⊤
    pub tells : action_of got w ≡ Some action
    pub entry : new.diary ≡ old.diary ++ record { stamp = stamp; process = old.number; place = place_of old.number got w; action = recorded action } ∷ []
    pub takes : Suits (nameless image main) x (number_of (place_of old.number got w)) action → Comes new ((nameless image main).answered x (number_of (place_of old.number got w)) action)
    pub aside : (Suits (nameless image main) x (number_of (place_of old.number got w)) action → ⊥) → IsProcess new ((nameless image main).put_aside x)

-- it wants something at a state at which it is
abbrev pub IsWanting : MachineState → Type 0
IsWanting m = (image : Image) × (main : ℕ) × (s : CodeState ⊤) × (w : CellWant ⊤) × IsAt image main m s × ((nameless image main).wanted s ≡ Some w)

-- a local step is next, under some limit, at a state at which it is
abbrev pub IsStepping : MachineState → Type 0
IsStepping m = (image : Image) × (main limit : ℕ) × (s : CodeState ⊤) × IsAt image main m s × ((nameless image main).ready limit s ≡ local)

-- A process that is not dead stands for a state of an image; and the stamps of its diary rise from above its birth's up to its clock.
pub record IsKept (p : ProcessState) : Type 0 where
  pub stands : p.is_dead ≡ false → (image : Image) × (main : ℕ) × (x : CodeState ⊤) × IsProcess image main p x
  pub later : AreLater p.birth.stamp.0 p.diary
  pub at_clock : clock_behind p.birth.stamp.0 p.diary ≡ p.clock

-- what is got fits what is wanted at a state for which the process stands, if it is not dead
abbrev pub FitsProcess : ProcessState → Got → Type 0
FitsProcess p got =
    p.is_dead ≡ false → (image : Image) × (main : ℕ) × (x : CodeState ⊤) × (w : CellWant ⊤) × IsProcess image main p x × ((nameless image main).wanted x ≡ Some w) × FitsWant got w
