-- What an entry of a diary tells, and which entry is put aside. Language reference, "Diaries".
use Rattle.std.specs.Prelude.{Some, ◌≡◌, ⊤}
use Rattle.herm_journal.specs.Entries.{Entry, recorded}
use Rattle.herm_journal.specs.Messages.{CellAction}
use Rattle.herm_system.specs.Machines.{Machine}
use Rattle.herm_system.specs.Systems.{number_of}
use Rattle.herm_system.specs.Suiting.{Suits, Fulfils}

-- The action that an entry tells of: its values have the entry's texts, it answers what is wanted at a place where
-- that may be done, and what comes in suits. Language reference, "Diaries".
pub record IsToldBy {P : Type 0} (machine : Machine ⊤ P) (x : P) (e : Entry) (a : CellAction ⊤) : Type 0 where
  pub text : recorded a ≡ e.action
  pub answers : Fulfils machine x e.place a
  pub suits : Suits machine x (number_of e.place) a

-- The state behind an entry, from one without local steps. An entry that tells of no such action is put aside: it counts as
-- an action, and changes nothing else. Language reference, "Diaries".
pub data IsBehind {P : Type 0} (machine : Machine ⊤ P) (x : P) (e : Entry) : P → Type 0 where
  told : (a : CellAction ⊤) (y : P) → IsToldBy machine x e a → machine.answered x (number_of e.place) a ≡ Some y → IsBehind machine x e y
  aside : ((a : CellAction ⊤) → IsToldBy machine x e a → ⊥) → IsBehind machine x e (machine.put_aside x)
