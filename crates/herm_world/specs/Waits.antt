-- Places at which it is noted who waits, and nothing else changes.
use Rattle.std.specs.Prelude.{◌≡◌, ◌∷◌, [], ℕ, List, Bool, true, false, cond, map, None, slice_get, ⊤}
use Rattle.herm_model.specs.Lists.{any_pass, list_of}
use Rattle.herm_journal.specs.Messages.{CellWant}
use Rattle.herm_system.specs.Machines.{Machine}
use Rattle.herm_system.specs.Systems.{standing}
use Rattle.herm_waking.specs.Unnamed.{ports_as, ports_of_want}
use Rattle.herm_exchanges.specs.Told.{Told, a_take}
use Rattle.herm_queue.specs.PortStates.{PortState}
use Rattle.herm_waking.specs.Numbers.{inserted, removed}
use Rattle.herm_waking.specs.Waking.{noted_at}
use Rattle.herm_world.specs.Looks.{can_so}
use Rattle.herm_world.specs.Places.{Places, waiters_of}

-- a port without the process that is noted there, and without the memory that was taken
abbrev pub without_waiter : PortState → PortState
without_waiter p = record p { waiter = None; spare = 0 }

-- the same but for who is noted
pub record IsSameBut (old new : Places) : Type 0 where
  pub ports : map without_waiter new.ports ≡ map without_waiter old.ports
  pub replies : new.replies ≡ old.replies
  pub book : new.book ≡ old.book

-- whether there is a port of this number, and it is open
abbrev pub opened : Places → ℕ → Bool
opened s n = any_pass (λ (p : PortState). p.held.is_open) (list_of (λ p. p ∷ []) (slice_get s.ports n))

-- the ports at which a process waits for a message, if it stands so
abbrev pub awaited_so : {Q : Type 0} → Machine ⊤ Q → (limit : ℕ) → (can : CellWant ⊤ → Bool) → Q → List ℕ
awaited_so machine limit can x = ports_as (standing machine limit can x) (ports_of_want (machine.wanted x))

-- a message is wanted
abbrev pub is_take : Told → Bool
is_take (a_take first count) = true
is_take t = false

-- A process that stands so was looked at again: it is kept exactly where it can step, and noted at each port at which it waits.
pub record IsLookedAt {Q : Type 0} (machine : Machine ⊤ Q) (limit : ℕ) (can : CellWant ⊤ → Bool) (x : Q) (who : ℕ) (old : Places) (ready : List ℕ) (new : Places) (ready_then : List ℕ) : Type 0 where
  pub kept : ready_then ≡ cond (can_so (standing machine limit can x)) (inserted who ready) (removed who ready)
  pub noted : waiters_of new ≡ noted_at (opened old) who (awaited_so machine limit can x) (waiters_of old)
