-- What one step of a process changes among the parts of a world.
use Rattle.std.specs.Prelude.{◌≡◌, ◌<◌, ◌^◌, ◌++◌, ◌∷◌, [], ℕ, List, false, Option, Some, None, ⊤}
use Rattle.herm_model.specs.Values.{an_inport}
use Rattle.herm_base.specs.declared.numbers.ProcNo.{ProcNo}
use Rattle.herm_events.specs.declared.entry.Stamp.{Stamp}
use Rattle.herm_journal.specs.Messages.{CellWant}
use Rattle.herm_system.specs.Machines.{acting}
use Rattle.herm_system.specs.Systems.{numbered_from_one, set_from_one}
use Rattle.herm_instructions.specs.Images.{Image}
use Rattle.herm_code_machine.specs.CodeStates.{CodeState}
use Rattle.herm_values.specs.View.{leaf}
use Rattle.herm_machine.specs.Machines.{nameless}
use Rattle.herm_machine.specs.declared.order.Got.{Got}
use Rattle.herm_process.specs.Processes.{ProcessState, IsProcess, IsSettled, Comes}
use Rattle.herm_world.specs.Doing.{Does}
use Rattle.herm_world.specs.Orders.{CanBeDone, made_in}
use Rattle.herm_waking.specs.Numbers.{removed}
use Rattle.herm_waking.specs.Unnamed.{bare_can}
use Rattle.herm_world.specs.Places.{Places, seen_of, waiters_of}
use Rattle.herm_world.specs.Waits.{IsSameBut, IsLookedAt}

-- no call of a process failed
abbrev pub AreAlive : List ProcessState → Type 0
AreAlive ps = (q : ℕ) (x : ProcessState) → numbered_from_one q ps ≡ Some x → x.is_dead ≡ false

-- it is so of the process of this number
abbrev pub IsOf : ℕ → List ProcessState → (ProcessState → Type 0) → Type 0
IsOf p ps Is = (x : ProcessState) → numbered_from_one p ps ≡ Some x → Is x

-- The process of this number made its local step, and all others are as before.
pub record MadeLocal (p : ℕ) (old new : List ProcessState) : Type 0 where
  pub before : ProcessState
  pub after : ProcessState
  pub there : numbered_from_one p old ≡ Some before
  pub set : new ≡ set_from_one p after old
  pub same : after ≡ record before { machine = after.machine }
  pub comes : (image : Image) (main : ℕ) (x : CodeState ⊤) → IsProcess image main before x → Comes image main after ((nameless image main).local_step x)

-- What can be asked of a process that acts: no order is out, it is that of this number, an action is next and can be done now, and its clock is below 2^63.
pub record CanAct (x : ProcessState) (s : Places) (who : ℕ) : Type 0 where
  pub alive : x.is_dead ≡ false
  pub free : x.ordered ≡ None
  pub own : x.number ≡ who
  pub next : (image : Image) (main : ℕ) (state : CodeState ⊤) → IsProcess image main x state → (nameless image main).ready x.limit state ≡ acting
  pub can : CanBeDone x s who
  pub clock : x.clock < 2 ^ 63

-- A process made its action: what it wanted was done at the places, it got what tells of the action, and it settled that with the stamp of
-- the entry. Language reference, "Actions".
pub record Acts (p : ℕ) (before after : ProcessState) (s t : Places) (stamp : ℕ) (woken : List ℕ) (made : Option (ℕ × ℕ × ℕ)) : Type 0 where
  pub got : Got
  pub same : after ≡ record before { machine = after.machine; clock = stamp; diary = after.diary; ordered = None }
  pub does : (image : Image) (main : ℕ) (x : CodeState ⊤) (w : CellWant ⊤) → IsProcess image main before x → (nameless image main).wanted x ≡ Some w → Does p before.clock w s t got stamp woken × (made ≡ made_in w got)
  pub settles : (image : Image) (main : ℕ) (x : CodeState ⊤) (w : CellWant ⊤) → IsProcess image main before x → (nameless image main).wanted x ≡ Some w → IsSettled image main before after x got w stamp

-- The process of this number did, and all others are as before.
pub record MadeAction (p : ℕ) (old new : List ProcessState) (s t : Places) (stamp : ℕ) (woken : List ℕ) (made : Option (ℕ × ℕ × ℕ)) : Type 0 where
  pub before : ProcessState
  pub after : ProcessState
  pub there : numbered_from_one p old ≡ Some before
  pub set : new ≡ set_from_one p after old
  pub acts : Acts p before after s t stamp woken made

-- A process of this module, number and port begins behind the others, made by that process in the entry of this stamp.
-- Language reference, "Opening state".
pub record Begins (image : Image) (limit : ℕ) (maker : ProcNo) (stamp : Stamp) (code number port : ℕ) (old new : List ProcessState) : Type 0 where
  pub begun : ProcessState
  pub pushed : new ≡ old ++ begun ∷ []
  pub parts : begun ≡ record { machine = begun.machine; number = number; module_number = code; first = port; birth = record { maker = maker; stamp = stamp }; limit = limit; clock = stamp.0; diary = []; ordered = None; is_dead = false }
  pub comes : (main : ℕ) → Comes image main begun ((nameless image main).begin code number (leaf (an_inport port)))

-- the process that was made, if one was
abbrev pub BeginsMade : Image → (limit : ℕ) → ProcNo → Stamp → Option (ℕ × ℕ × ℕ) → (old new : List ProcessState) → Type 0
BeginsMade image limit maker stamp None old new = new ≡ old
BeginsMade image limit maker stamp (Some m) old new = Begins image limit maker stamp m.0 m.1 m.2 old new

-- there is a module of the number of the process that was made
abbrev pub IsModule : (modules : ℕ) → Option (ℕ × ℕ × ℕ) → Type 0
IsModule modules None = ⊤
IsModule modules (Some m) = m.0 < modules

-- The process of this number was looked at again: it is kept exactly where it can step, and noted at each port at which it waits; where there is
-- no such process it is not kept.
pub record LookedAt (q : ℕ) (ps : List ProcessState) (s : Places) (ready : List ℕ) (t : Places) (ready_then : List ℕ) : Type 0 where
  pub same : IsSameBut s t
  pub there : (x : ProcessState) → numbered_from_one q ps ≡ Some x → (image : Image) (main : ℕ) (state : CodeState ⊤) → IsProcess image main x state → (qs : List (CodeState ⊤))
      → IsLookedAt (nameless image main) x.limit (bare_can (seen_of qs s) q) state q s ready t ready_then
  pub absent : numbered_from_one q ps ≡ None → (waiters_of t ≡ waiters_of s) × (ready_then ≡ removed q ready)

-- so were those of these numbers, one after the other
abbrev pub LookedAtEach : List ℕ → List ProcessState → Places → List ℕ → Places → List ℕ → Type 0
LookedAtEach [] ps s ready t ready_then = (t ≡ s) × (ready_then ≡ ready)
LookedAtEach (q ∷ qs) ps s ready t ready_then = (u : Places) × (among : List ℕ) × LookedAt q ps s ready u among × LookedAtEach qs ps u among t ready_then
