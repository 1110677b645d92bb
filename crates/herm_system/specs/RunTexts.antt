-- The text that a run writes. Language reference, "The text of a run".
use Rattle.std.specs.Prelude.{ℕ, List, [], ◌++◌, map, flat_map, codes}
use Rattle.herm_model.specs.Lists.{list_of, numbered}
use Rattle.herm_model.specs.Values.{Name, a_scalar, a_text, Cell, cell}
use Rattle.herm_model.specs.ValueTexts.{text_of}
use Rattle.herm_journal.specs.Ports.{Port, left_in, first_of}
use Rattle.herm_journal.specs.Entries.{Text, Entry}
use Rattle.herm_journal.specs.EntryTexts.{entry_text}
use Rattle.herm_journal.specs.Journals.{ordered}
use Rattle.herm_system.specs.Machines.{Machine}
use Rattle.herm_system.specs.Systems.{System, Run}
use Rattle.herm_system.specs.TextLines.{line}
use Rattle.herm_system.specs.Summary.{counts, summary}
use Rattle.herm_system.specs.Statuses.{status_line}

-- the bytes of a string
abbrev pub bytes_of : Cell Name → Text
bytes_of (cell n (a_scalar (a_text bytes)) ps) = bytes
bytes_of c = []

-- The strings that are queued at the console, in order, each a line. Language reference, "The console".
abbrev pub console_text : {P : Type 0} → System P → Text
console_text s = list_of (λ p. flat_map (λ c. line (bytes_of c)) (left_in p)) (first_of s.ports)

-- The texts of the messages that are queued at each port, by number. Language reference, "Reports".
abbrev pub queues : {P : Type 0} → System P → List (ℕ × List Text)
queues s = numbered 0 (map (λ (p : Port (Cell Name)). map text_of (left_in p)) s.ports)

-- what is asked for besides: nothing, the summary, or the journal in place of all else
pub data Asked : Type 0 where
  plainly with_summary the_journal : Asked

-- The lines of a journal. Language reference, "Text of a journal".
abbrev pub journal_text : List Text → List Entry → Text
journal_text names journal = flat_map (λ e. line (codes "journal: " ++ entry_text names e)) journal

-- The text of a run that has come to a final state. Language reference, "The text of a run".
abbrev pub text_of_run : {P : Type 0} → List Text → Asked → Machine Name P → Run P → Text
text_of_run names plainly machine r = console_text r.system ++ status_line names machine r.system
text_of_run names with_summary machine r = console_text r.system ++ status_line names machine r.system ++ summary (counts machine r.system)
text_of_run names the_journal machine r = journal_text names (ordered r.journal)
