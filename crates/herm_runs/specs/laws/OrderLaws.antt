-- What is claimed of the order of a run's entries.
use Rattle.std.specs.Prelude.{List, Some, ◌≡◌}
use Rattle.herm_model.specs.Values.{Name}
use Rattle.herm_journal.specs.NextNumbers.{Limits}
use Rattle.herm_journal.specs.Entries.{Text}
use Rattle.herm_journal.specs.Journals.{ordered}
use Rattle.herm_system.specs.Machines.{Machine}
use Rattle.herm_system.specs.Systems.{Event, Run, run, start, opening, main_port}
use Rattle.herm_system.specs.Reports.{IsRunTo}

-- Whatever the schedule, there is a run to the same state whose journal is the entries in order.
-- Language reference, "Journals".
abbrev pub OrderedJournalsAreRuns : {P : Type 0} → Machine Name P → Type 0
OrderedJournalsAreRuns {P} machine = (limits : Limits) (argument : Text) (main : P) (events : List Event) (r : Run P) → machine.begin machine.main 1 main_port ≡ Some main
    → run machine events (start machine limits argument) ≡ Some r → IsRunTo machine (opening machine limits argument) (ordered r.journal) r.system
