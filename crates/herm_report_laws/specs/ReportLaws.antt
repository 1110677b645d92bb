-- What is claimed of the text and of the status of a report.
use Rattle.std.specs.Prelude.{◌≡◌, ℕ, List, [], Some, IsTrue, ⊤}
use Rattle.herm_model.specs.Lists.{IsIn}
use Rattle.herm_model.specs.Typed.{is_text}
use Rattle.herm_model.specs.Values.{Name, a_scalar, a_text, Cell, cell, no_parts}
use Rattle.herm_journal.specs.Entries.{Text, Entry}
use Rattle.herm_journal.specs.Journals.{ordered}
use Rattle.herm_journal.specs.NextNumbers.{Limits}
use Rattle.herm_journal.specs.Ports.{Port, first_of, left_in}
use Rattle.herm_system.specs.Reports.{DescribesRun}
use Rattle.herm_system.specs.RunTexts.{Asked}
use Rattle.herm_system.specs.Statuses.{status_by}
use Rattle.herm_system.specs.Systems.{Event}
use Rattle.herm_instructions.specs.Images.{Image}
use Rattle.herm_code_machine.specs.CodeStates.{CodeState}
use Rattle.herm_code_machine.specs.laws.GoodImageLaws.{IsGoodOver}
use Rattle.herm_waking.specs.KeptRounds.{Worked}
use Rattle.herm_waking.specs.Unnamed.{Unnamed}
use Rattle.herm_waking.specs.UnnamedReport.{bare_counts, bare_fates, bare_queues}
use Rattle.herm_waking.specs.UnnamedRounds.{BareWorked}
use Rattle.herm_code_worlds.specs.BareReports.{bare_text}
use Rattle.herm_code_worlds.specs.CodeWorlds.{FindsItsOperands, IsWithin, Shows, its_ready, named, nameless}
use Rattle.herm_code_worlds.specs.laws.WorldOfCode.{WorksAsWorld}
use Rattle.herm_report.specs.View.{counts_view, numbered_queues, proc_ends_view, report_view}
use Rattle.herm_report.specs.declared.report.Report.{Report}
use Rattle.herm_text.specs.ReportTexts.{ends_of, report_text}

-- The report tells of a system of code without names, and of the journal of its run. Language reference, "Reports".
pub record TellsOf (image : Image) (main : ℕ) (v : Unnamed (CodeState ⊤)) (journal : List Entry) (r : Report) : Type 0 where
  pub journal_is : r.journal ≡ ordered journal
  pub ends : proc_ends_view r.ends.items ≡ bare_fates (nameless image main) v
  pub queued : numbered_queues r.queued.items ≡ bare_queues v
  pub counts : counts_view r.counts ≡ bare_counts (nameless image main) v

-- each message at the console's port is a string
abbrev pub IsString : Cell ⊤ → Type 0
IsString c = (bytes : Text) × (c ≡ cell tt (a_scalar (a_text bytes)) no_parts)

abbrev pub HasStrings : List (Port (Cell ⊤)) → Type 0
HasStrings ports = (p : Port (Cell ⊤)) (c : Cell ⊤) → first_of ports ≡ Some p → IsIn c (left_in p) → IsString c

-- The text of a report is that of the system and of the journal of which it tells. Language reference, "The text of a run".
abbrev pub TextsAreOfRuns : Type 0
TextsAreOfRuns = (image : Image) (main : ℕ) (v : Unnamed (CodeState ⊤)) (journal : List Entry) (r : Report) (names : List Text) (asked : Asked) → TellsOf image main v journal r → HasStrings v.ports
    → report_text names asked r ≡ bare_text names asked (nameless image main) v journal

-- In each state of a run of a good image the messages at the console's port are strings. Language reference, "The console".
abbrev pub ConsolesHoldStrings : Type 0
ConsolesHoldStrings = (exceptions : ℕ) (image : Image) (main : ℕ) → IsGoodOver exceptions image → (limits : Limits) (argument : Text) (events : List Event) (w : Worked (CodeState Name)) (b : BareWorked (CodeState ⊤))
    → Shows image main limits argument events w b → HasStrings b.system.ports

-- Where nobody is kept, a report that tells of a world that shows a run describes this run, with the status and the text that it has.
-- Language reference, "Reports".
abbrev pub ReportsDescribe : Type 0
ReportsDescribe = (exceptions : ℕ) (image : Image) (main : ℕ) → IsGoodOver exceptions image → WorksAsWorld image main → (limits : Limits) (argument : Text) (events : List Event) (w : Worked (CodeState Name)) (b : BareWorked (CodeState ⊤))
    → IsTrue (is_text argument) → Shows image main limits argument events w b → b.kept.ready ≡ [] → (r : Report) → TellsOf image main b.system w.run.journal r → (names : List Text) (asked : Asked)
    → DescribesRun (named image main) (IsWithin image main) (FindsItsOperands (its_ready image main)) limits argument names asked (report_view r (status_by (first_of (ends_of r)) (ends_of r)) (report_text names asked r))
