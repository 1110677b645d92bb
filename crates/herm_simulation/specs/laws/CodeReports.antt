-- What is claimed of the reports of runs of code: they describe runs of the source.
use Rattle.std.specs.Prelude.{List, Some, IsTrue, ◌≡◌}
use Rattle.herm_model.specs.Typed.{is_text}
use Rattle.herm_model.specs.Values.{Name}
use Rattle.herm_journal.specs.Entries.{Text}
use Rattle.herm_journal.specs.Journals.{IsRising}
use Rattle.herm_journal.specs.NextNumbers.{Limits}
use Rattle.herm_system.specs.Reports.{Report, IsReportOf}
use Rattle.herm_system.specs.RunTexts.{Asked, plainly}
use Rattle.herm_system.specs.Systems.{Event, Run, run, start, IsFinal}
use Rattle.herm_source.specs.AcceptedRuns.{Describes}
use Rattle.herm_checked.specs.laws.CheckedRuns.{report_of}
use Rattle.herm_code_machine.specs.CodeInstance.{code_machine}
use Rattle.herm_code_machine.specs.CodeStates.{CodeState}
use Rattle.herm_simulation.specs.Simulating.{ready_image}
use Rattle.herm_simulation.specs.laws.SimulationLaws.{OfTranslated}

-- Each run of the code to a final state, with its journal in order and a text as argument, has a report that describes a run of the checked program: a run of the source
-- machine, in which every state is sound and every statement finds what it needs, and of which all in the report is true. So it is whatever the schedule, the end, the names of exceptions and
-- what is asked for. Language reference, "Reports".
abbrev pub CodeRunsAreDescribed : Type 0
CodeRunsAreDescribed = OfTranslated (λ program modules checked. let code = code_machine (ready_image program modules checked) in
    (limits : Limits) (argument : Text) (names : List Text) (asked : Asked) (events : List Event) (q : Run (CodeState Name)) → IsTrue (is_text argument) → run code events (start code limits argument) ≡ Some q → IsRising q.journal → IsFinal code q.system
    → Describes modules limits argument names asked (report_of code names asked q))

-- So has each run of the code with a report whose text is the same by all names of exceptions.
abbrev pub CodeReportsDescribe : Type 0
CodeReportsDescribe = OfTranslated (λ program modules checked. (limits : Limits) (argument : Text) (names : List Text) (report : Report) → IsTrue (is_text argument)
    → IsReportOf (code_machine (ready_image program modules checked)) limits argument report → Describes modules limits argument names plainly report)
