-- What is claimed of the report that a world gives where none of its processes can step.
use Rattle.std.specs.Prelude.{List, [], Some, ◌≡◌, IsTrue}
use Rattle.herm_model.specs.Typed.{is_text}
use Rattle.herm_model.specs.Values.{Name, Kind}
use Rattle.std.specs.Prelude.{ℕ}
use Rattle.herm_journal.specs.Entries.{Text}
use Rattle.herm_journal.specs.Journals.{ordered}
use Rattle.herm_journal.specs.NextNumbers.{Limits}
use Rattle.herm_system.specs.Machines.{Machine}
use Rattle.herm_system.specs.ProcessFates.{fates}
use Rattle.herm_system.specs.Reports.{Report, DescribesRun}
use Rattle.herm_system.specs.RunTexts.{queues, Asked, text_of_run}
use Rattle.herm_system.specs.Statuses.{status_of}
use Rattle.herm_system.specs.Summary.{counts}
use Rattle.herm_system.specs.Systems.{Event, Run, run, start, main_port}
use Rattle.herm_waking.specs.KeptRounds.{Worked}
use Rattle.herm_waking.specs.laws.RoundLaws.{IsWorked}

-- The report of a run in order, under these names of exceptions and with what is asked for. Language reference, "Reports".
abbrev pub report_of : {P : Type 0} → List Text → Asked → Machine Name P → Run P → Report
report_of names asked machine r = record {
  journal = ordered r.journal;
  ends = fates machine r.system;
  queued = queues r.system;
  counts = counts machine r.system;
  status = status_of machine r.system;
  text = text_of_run names asked machine (record { system = r.system; journal = ordered r.journal });
}

-- Where a world that events have led to keeps none, its report is that of a run, with what processes that are sound within themselves
-- find. Language reference, "Reports".
abbrev pub WorldsAreReported : {P : Type 0} → Machine Name P → (Is FindsNeeds : P → Type 0) → (P → List (ℕ × Kind)) → Type 0
WorldsAreReported {P} machine Is FindsNeeds beside = (limits : Limits) (argument : Text) (main : P) (events : List Event) (w : Worked P) (names : List Text) (asked : Asked) → IsTrue (is_text argument)
    → machine.begin machine.main 1 main_port ≡ Some main → run machine events (start machine limits argument) ≡ Some w.run → IsWorked machine Is beside w → w.kept.ready ≡ []
    → DescribesRun machine Is FindsNeeds limits argument names asked (report_of names asked machine w.run)
