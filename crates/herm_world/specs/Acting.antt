-- What a process does at a place, over any machine without names: the parts of one step.
use Rattle.std.specs.Prelude.{ℕ, find, Option, Some, is_some, option_and_then, ◌≡◌, ⊤}
use Rattle.herm_model.specs.Values.{Cell}
use Rattle.herm_journal.specs.Entries.{Place}
use Rattle.herm_journal.specs.Messages.{CellReply, CellWant, CellAction}
use Rattle.herm_journal.specs.PlaceStates.{PlaceState, after}
use Rattle.herm_system.specs.Machines.{Machine, acting, local}
use Rattle.herm_system.specs.Systems.{numbered_from_one, places_for, done_at, number_of}
use Rattle.herm_waking.specs.Unnamed.{Unnamed, bare_at, set_bare, set_bare_process, with_bare}

-- the first place at which this can be done
abbrev pub first_place_for : {Q : Type 0} → Unnamed Q → ℕ → CellWant ⊤ → Option Place
first_place_for v p want = find (λ place. is_some (option_and_then (done_at want) (bare_at place v))) (places_for p want)

module _ {Q : Type 0} (machine : Machine ⊤ Q) (p : ℕ) (v : Unnamed Q) (x : Q) where
  -- A local step of a process comes next, and leaves this.
  pub record StepsTo (y : Q) : Type 0 where
    pub its : numbered_from_one p v.processes ≡ Some x
    pub next : machine.ready v.book.limits.steps x ≡ local
    pub left : machine.local_step x ≡ Some y

  -- An action comes next: what the process wants is done at the first place at which it can be done now, which holds this, and the process is
  -- answered by it. Language reference, "Actions".
  pub record ActsAt (want : CellWant ⊤) (place : Place) (h : PlaceState (Cell ⊤) (CellReply ⊤)) (a : CellAction ⊤) (y : Q) : Type 0 where
    pub its : numbered_from_one p v.processes ≡ Some x
    pub next : machine.ready v.book.limits.steps x ≡ acting
    pub wants : machine.wanted x ≡ Some want
    pub first : first_place_for v p want ≡ Some place
    pub holds : bare_at place v ≡ Some h
    pub does : done_at want h ≡ Some a
    pub answered : machine.answered x (number_of place) a ≡ Some y

  -- and the system is left so
  pub record ActsTo (want : CellWant ⊤) (place : Place) (h : PlaceState (Cell ⊤) (CellReply ⊤)) (a : CellAction ⊤) (y : Q) (w : Unnamed Q) : Type 0 where
    pub acts : ActsAt want place h a y
    pub left : with_bare machine a (set_bare_process p y (set_bare place (after a h) v)) ≡ Some w
