-- What is claimed of the report that a world makes of what it holds: its journal and its numbers.
use Rattle.std.specs.Prelude.{ℕ, ◌+◌, List, Some, ◌≡◌}
use Rattle.herm_model.specs.Values.{Name}
use Rattle.herm_journal.specs.Entries.{Text, Entry}
use Rattle.herm_journal.specs.NextNumbers.{Limits}
use Rattle.herm_journal.specs.Journals.{IsJournalOf, IsRising, ordered, part_of_process, part_of_place}
use Rattle.herm_system.specs.Machines.{Machine}
use Rattle.herm_system.specs.Systems.{System, Event, Run, run, start, main_port}
use Rattle.herm_system.specs.Summary.{counts, cut}
use Rattle.herm_waking.specs.AddedCounts.{added_counts}

-- The journal of a run in order fits its diaries and histories, and is the one list that rises and has these diaries.
-- Language reference, "Journals".
pub record IsTheJournalOf {P : Type 0} (r : Run P) : Type 0 where
  pub fits : IsJournalOf (ordered r.journal) (λ p. part_of_process p r.journal) (λ place. part_of_place place r.journal)
  pub one : (journal : List Entry) → IsRising journal → ((p : ℕ) → part_of_process p journal ≡ part_of_process p r.journal) → journal ≡ ordered r.journal

abbrev pub RunsHaveOneJournal : {P : Type 0} → Machine Name P → Type 0
RunsHaveOneJournal {P} machine = (limits : Limits) (argument : Text) (first : P) (events : List Event) (r : Run P) → machine.begin machine.main 1 main_port ≡ Some first
    → run machine events (start machine limits argument) ≡ Some r → IsTheJournalOf r

-- The numbers of the summary are those that are added up, each count cut where it is taken. Language reference, "The summary".
abbrev pub CountsAreAdded : {P : Type 0} → Machine Name P → Type 0
CountsAreAdded {P} machine = (s : System P) → added_counts machine s ≡ counts machine s

-- A sum of counts may be cut at every step. Language reference, "The summary".
abbrev pub SumsAreCut : Type 0
SumsAreCut = (a b : ℕ) → cut (cut a + cut b) ≡ cut (a + b)
