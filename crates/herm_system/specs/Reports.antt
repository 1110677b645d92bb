-- What a report says of a run.
use Rattle.std.specs.Prelude.{ℕ, List, [], ◌++◌, Some, ◌≡◌}
use Rattle.herm_model.specs.Values.{Name}
use Rattle.herm_journal.specs.NextNumbers.{Limits}
use Rattle.herm_journal.specs.Entries.{Text, Entry}
use Rattle.herm_journal.specs.Journals.{IsRising}
use Rattle.herm_journal.specs.Stamps.{IsStamped}
use Rattle.herm_system.specs.Machines.{Machine}
use Rattle.herm_system.specs.Systems.{System, opening, Event, run, numbered_from_one, IsFinal}
use Rattle.herm_system.specs.Ledger.{HasLedger, IsMadeOnce}
use Rattle.herm_system.specs.Statuses.{status_of}
use Rattle.herm_system.specs.RunTexts.{queues, Asked, plainly, text_of_run}
use Rattle.herm_system.specs.Summary.{Counts, counts}
use Rattle.herm_system.specs.ProcessFates.{Fate, fates}
use Rattle.herm_system.specs.Sound.{IsSoundFor}

-- The entries in order are actions that lead from one state to another, with the local steps of processes between
-- them. Language reference, "Journals".
abbrev pub IsRunTo : {P : Type 0} → Machine Name P → System P → List Entry → System P → Type 0
IsRunTo machine s journal t = (events : List Event) × (run machine events (record { system = s; journal = [] }) ≡ Some (record { system = t; journal = journal }))

-- a state along a run: one that a beginning of the journal leads to
abbrev pub IsAlong : {P : Type 0} → Machine Name P → System P → List Entry → System P → Type 0
IsAlong machine s journal t = (before rest : List Entry) × (journal ≡ before ++ rest) × IsRunTo machine s before t

-- something is so of every process
abbrev pub IsSoOfAll : {P : Type 0} → (P → Type 0) → System P → Type 0
IsSoOfAll {P} Is s = (p : ℕ) (x : P) → numbered_from_one p s.processes ≡ Some x → Is x

-- What a run reports: its journal, what became of each process, the messages queued at each port, the numbers of the
-- summary, the status and the text. Language reference, "Reports".
pub record Report : Type 0 where
  pub journal : List Entry
  pub ends : List Fate
  pub queued : List (ℕ × List Text)
  pub counts : Counts
  pub status : ℕ
  pub text : Text

-- The report is that of a run to a final state: its journal is ordered, stamped and that run, every state along it has
-- the ledger, and all else is that of the final state. Language reference, "Reports".
pub record IsReportOf {P : Type 0} (machine : Machine Name P) (limits : Limits) (argument : Text) (report : Report) : Type 0 where
  pub final : System P
  pub is_ordered : IsRising report.journal
  pub is_stamped : IsStamped report.journal
  pub is_a_run : IsRunTo machine (opening machine limits argument) report.journal final
  pub is_final : IsFinal machine final
  pub has_ledger : (s : System P) → IsAlong machine (opening machine limits argument) report.journal s → HasLedger machine s × IsMadeOnce machine s
  pub ends : fates machine final ≡ report.ends
  pub queued : queues final ≡ report.queued
  pub counts : counts machine final ≡ report.counts
  pub status : status_of machine final ≡ report.status
  pub text : (names : List Text) → text_of_run names plainly machine (record { system = final; journal = report.journal }) ≡ report.text

-- The report of a run, under these limits and with this argument, where this is asked for. Its journal is ordered, has the
-- stamps of the two clocks, and is a run from the opening state to a final one. In every state along it every process
-- finds what it needs, the state is sound, and no cell has two holders and every cell made is held, queued or finalised
-- once. Ends, queues, numbers, status and text are those of the final state.
pub record DescribesRun {P : Type 0} (machine : Machine Name P) (IsSoundWithin FindsNeeds : P → Type 0) (limits : Limits) (argument : Text) (names : List Text) (asked : Asked) (report : Report) : Type 0 where
  pub final : System P
  pub is_ordered : IsRising report.journal
  pub is_stamped : IsStamped report.journal
  pub is_a_run : IsRunTo machine (opening machine limits argument) report.journal final
  pub is_final : IsFinal machine final
  pub finds_needs : (s : System P) → IsAlong machine (opening machine limits argument) report.journal s → IsSoOfAll FindsNeeds s
  pub is_sound : (s : System P) → IsAlong machine (opening machine limits argument) report.journal s → IsSoundFor machine IsSoundWithin s
  pub has_ledger : (s : System P) → IsAlong machine (opening machine limits argument) report.journal s → HasLedger machine s × IsMadeOnce machine s
  pub ends : fates machine final ≡ report.ends
  pub queued : queues final ≡ report.queued
  pub counts : counts machine final ≡ report.counts
  pub status : status_of machine final ≡ report.status
  pub text : text_of_run names asked machine (record { system = final; journal = report.journal }) ≡ report.text
