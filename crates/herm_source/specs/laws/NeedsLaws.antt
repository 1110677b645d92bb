-- Laws of where processes stand, and of what their statements find there.
use Rattle.std.specs.Prelude.{◌≡◌, ℕ, Some, List, slice_get}
use Rattle.herm_model.specs.Lists.{IsIn}
use Rattle.herm_model.specs.Statements.{Process, IsWellFormedBlock}
use Rattle.herm_model.specs.ControlPaths.{flow_of, IsReached}
use Rattle.herm_journal.specs.NextNumbers.{Limits}
use Rattle.herm_journal.specs.Entries.{Text, Entry}
use Rattle.herm_forms.specs.Frames.{Name}
use Rattle.herm_source.specs.States.{State}
use Rattle.herm_source.specs.Modules.{Program, Modules}
use Rattle.herm_system.specs.Systems.{System, opening, Event, Run, run, start, numbered_from_one}
use Rattle.herm_source.specs.Instance.{IsSound, source, IsSoundIn}
use Rattle.herm_source.specs.AcceptedRuns.{AreAccepted, FindsNeeds}
use Rattle.herm_system.specs.Reports.{IsAlong, IsSoOfAll}

-- the body of each process of the program is well formed
abbrev pub HasWellFormedBodies : Program → Type 0
HasWellFormedBodies program = (process : Process) → IsIn process program.processes → IsWellFormedBlock process.body

-- Each process stands where a control path of its module leads. Language reference, "Control paths".
abbrev pub StandsReached : Program → System (State Name) → Type 0
StandsReached program s =
    (p : ℕ) (state : State Name) (process : Process) → numbered_from_one p s.processes ≡ Some state → slice_get program.processes state.module_number ≡ Some process
    → IsReached (flow_of program.types process) state.point

-- each process is sound within itself
abbrev pub AreLocallySound : Modules → System (State Name) → Type 0
AreLocallySound modules s = IsSoOfAll (IsSoundIn modules) s

-- In every state that a run of accepted modules leads to, whatever the schedule, each process stands where a control
-- path leads. Language reference, "Control paths".
abbrev pub RunsReach : Type 0
RunsReach = (program : Program) (modules : Modules) (limits : Limits) (argument : Text) (events : List Event) (r : Run (State Name)) → AreAccepted program modules → HasWellFormedBodies program
    → run (source modules) events (start (source modules) limits argument) ≡ Some r → StandsReached program r.system

-- Where the processes of accepted modules stand so and each is sound within itself, every statement finds the facts that
-- it needs, whatever its form. Language reference, "Sound states".
abbrev pub SoundStatesFindNeeds : Type 0
SoundStatesFindNeeds = (program : Program) (modules : Modules) (s : System (State Name)) → AreAccepted program modules → StandsReached program s → AreLocallySound modules s → FindsNeeds modules s

-- So in every state along a journal of accepted modules that is sound every statement finds the facts that it needs.
abbrev pub SoundStatesAlongFindNeeds : Type 0
SoundStatesAlongFindNeeds = (program : Program) (modules : Modules) (limits : Limits) (argument : Text) (journal : List Entry) (s : System (State Name)) → AreAccepted program modules → HasWellFormedBodies program
    → IsAlong (source modules) (opening (source modules) limits argument) journal s → IsSound modules s → FindsNeeds modules s
