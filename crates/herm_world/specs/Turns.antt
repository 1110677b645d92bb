-- What a process does at its turn.
use Rattle.std.specs.Prelude.{◌≡◌, ◌⊎◌, ℕ, List, Bool, true, false, Some, ⊤}
use Rattle.herm_journal.specs.Messages.{CellWant}
use Rattle.herm_system.specs.Machines.{Machine, ended, out_of_steps, out_of_actions, local, acting}
use Rattle.herm_instructions.specs.Images.{Image}
use Rattle.herm_code_machine.specs.CodeStates.{CodeState}
use Rattle.herm_waking.specs.Unnamed.{bare_can}
use Rattle.herm_machine.specs.Machines.{nameless}
use Rattle.herm_process.specs.Processes.{ProcessState, IsProcess}
use Rattle.herm_world.specs.Places.{Places, seen_of}
use Rattle.herm_world.specs.declared.turns.Turn.{Turn}
use Rattle.herm_world.specs.declared.turns.Turn.TheVariants as turns

-- A process at this state does so under a limit of steps, where a test says what can be done. Language reference, "Processes".
abbrev pub IsTurn : {Q : Type 0} → Turn → Machine ⊤ Q → (limit : ℕ) → (can : CellWant ⊤ → Bool) → Q → Type 0
IsTurn turns.Local machine limit can x = machine.ready limit x ≡ local
IsTurn turns.Act machine limit can x = (machine.ready limit x ≡ acting) × (w : CellWant ⊤) × (machine.wanted x ≡ Some w) × (can w ≡ true)
IsTurn turns.Waiting machine limit can x = (machine.ready limit x ≡ acting) × (w : CellWant ⊤) × (machine.wanted x ≡ Some w) × (can w ≡ false)
IsTurn turns.Ended machine limit can x = machine.ready limit x ≡ ended
IsTurn turns.Stopped machine limit can x = (machine.ready limit x ≡ out_of_steps) ⊎ (machine.ready limit x ≡ out_of_actions)

-- so does this process at each state for which it stands, among these places
abbrev pub TurnsAs : Turn → ProcessState → Places → (who : ℕ) → Type 0
TurnsAs t process s who = (image : Image) (main : ℕ) (x : CodeState ⊤) → IsProcess image main process x → (qs : List (CodeState ⊤)) → IsTurn t (nameless image main) process.limit (bare_can (seen_of qs s) who) x
