use Rattle.std.proofs.Common.{◌≡◌, ℕ, List, Some}
use Rattle.std.specs.Prelude.{⊤}
use Rattle.herm_journal.specs.Actions.{to_take}
use Rattle.herm_instructions.specs.Images.{Image}
use Rattle.herm_code_machine.specs.CodeStates.{CodeState}
use Rattle.herm_machine.specs.Machines.{nameless}
use Rattle.herm_process.specs.Processes.{IsProcess}
use Rattle.herm_world.specs.Places.{places_of, is_filled}
use Rattle.herm_world.proofs.Looking.{NoneBefore}
use Rattle.herm_world.proofs.looks.first_among.Given as goal

abbrev pub invariant-loop-place : goal.invariant-loop-place
invariant-loop-place l = (image : Image) (main : ℕ) (x : CodeState ⊤) (ports : List ℕ) → IsProcess image main l.process x → (nameless image main).wanted x ≡ Some (to_take ports) → NoneBefore (is_filled (places_of l.places)) ports l.place
