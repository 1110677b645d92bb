-- What a process looks at: whether what it wants can be done now.
use Rattle.std.specs.Prelude.{ℕ, List, length, Bool, true, Option, Some, ◌||◌, ◌≡◌, ⊤}
use Rattle.herm_journal.specs.Actions.{to_take}
use Rattle.herm_journal.specs.Messages.{CellWant}
use Rattle.herm_system.specs.Machines.{Standing, is_local, is_acting}
use Rattle.herm_exchanges.specs.Told.{Told, a_port, a_process, a_put, a_take, a_close, an_answer, a_hearing, told, want_view}
use Rattle.herm_exchanges.specs.declared.wants.Want.{Want}
use Rattle.herm_world.specs.Places.{Places, has_port, has_replies, is_answered}

-- messages are wanted from so many ports
abbrev pub Takes : (count : ℕ) → Option (CellWant ⊤) → Type 0
Takes count o = (ports : List ℕ) × (o ≡ Some (to_take ports)) × (length ports ≡ count)

-- this is told of what is wanted
abbrev pub IsToldWant : Want → Option (CellWant ⊤) → Type 0
IsToldWant want o = (w : CellWant ⊤) × (o ≡ Some w) × (told w ≡ Some (want_view want))

-- Whether a process of this number can do what is told, where it is known whether a message waits for it.
abbrev pub can_as : Places → (process : ℕ) → (filled : Bool) → Told → Bool
can_as s p filled a_port = true
can_as s p filled (a_process code) = true
can_as s p filled (a_put n) = has_port s n
can_as s p filled (a_take first count) = filled
can_as s p filled (a_close n) = has_port s n
can_as s p filled (an_answer caller call) = has_replies s caller
can_as s p filled a_hearing = is_answered s p

-- a process that stands so can step
abbrev pub can_so : Standing → Bool
can_so standing = is_local standing || is_acting standing
