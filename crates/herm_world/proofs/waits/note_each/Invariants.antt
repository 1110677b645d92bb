use Rattle.std.proofs.Common.{◌≡◌, ℕ, List, Some, drop}
use Rattle.std.specs.Prelude.{⊤}
use Rattle.herm_journal.specs.Actions.{to_take}
use Rattle.herm_instructions.specs.Images.{Image}
use Rattle.herm_code_machine.specs.CodeStates.{CodeState}
use Rattle.herm_waking.specs.Waking.{noted_at}
use Rattle.herm_machine.specs.Machines.{nameless}
use Rattle.herm_process.specs.Processes.{IsProcess}
use Rattle.herm_world.specs.Places.{places_of, waiters_of}
use Rattle.herm_world.specs.Waits.{IsSameBut, opened}
use Rattle.herm_world.proofs.waits.note_each.Given as goal

abbrev pub invariant-loop-place : goal.invariant-loop-place
invariant-loop-place l =
    IsSameBut (places_of l.initial.places) (places_of l.places)
    × ((image : Image) (main : ℕ) (x : CodeState ⊤) (ports : List ℕ) → IsProcess image main l.process x → (nameless image main).wanted x ≡ Some (to_take ports)
    → noted_at (opened (places_of l.initial.places)) l.who.number (drop l.place ports) (waiters_of (places_of l.places)) ≡ noted_at (opened (places_of l.initial.places)) l.who.number ports (waiters_of (places_of l.initial.places)))
