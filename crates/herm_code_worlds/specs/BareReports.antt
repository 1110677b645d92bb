-- The report of a system without names.
use Rattle.std.specs.Prelude.{List, [], ◌++◌, flat_map, ⊤}
use Rattle.herm_model.specs.Lists.{list_of}
use Rattle.herm_model.specs.Values.{a_scalar, a_text, Cell, cell}
use Rattle.herm_journal.specs.Entries.{Text, Entry}
use Rattle.herm_journal.specs.Journals.{ordered}
use Rattle.herm_journal.specs.Ports.{Port, left_in, first_of}
use Rattle.herm_system.specs.Machines.{Machine}
use Rattle.herm_system.specs.Reports.{Report}
use Rattle.herm_system.specs.RunTexts.{Asked, plainly, with_summary, the_journal, journal_text}
use Rattle.herm_system.specs.Statuses.{status_by, status_line_by}
use Rattle.herm_system.specs.Summary.{summary}
use Rattle.herm_system.specs.TextLines.{line}
use Rattle.herm_waking.specs.Unnamed.{Unnamed}
use Rattle.herm_waking.specs.UnnamedReport.{bare_fates, bare_queues, bare_counts}

-- the bytes of a string
abbrev pub bare_bytes : Cell ⊤ → Text
bare_bytes (cell n (a_scalar (a_text bytes)) ps) = bytes
bare_bytes c = []

-- The strings that are queued at the console, in order, each a line. Language reference, "The console".
abbrev pub bare_console : {Q : Type 0} → Unnamed Q → Text
bare_console v = list_of (λ (p : Port (Cell ⊤)). flat_map (λ c. line (bare_bytes c)) (left_in p)) (first_of v.ports)

-- The line on the status. Language reference, "Statuses".
abbrev pub bare_status_line : {Q : Type 0} → List Text → Machine ⊤ Q → Unnamed Q → Text
bare_status_line names machine v = status_line_by names (first_of (bare_fates machine v)) (bare_fates machine v)

-- The text of a run whose final state is this without names, and whose journal is this. Language reference, "The text of a run".
abbrev pub bare_text : {Q : Type 0} → List Text → Asked → Machine ⊤ Q → Unnamed Q → List Entry → Text
bare_text names plainly machine v journal = bare_console v ++ bare_status_line names machine v
bare_text names with_summary machine v journal = bare_console v ++ bare_status_line names machine v ++ summary (bare_counts machine v)
bare_text names the_journal machine v journal = journal_text names (ordered journal)

-- What is reported of a final state without names, with the journal of the run. Language reference, "Reports".
abbrev pub bare_report : {Q : Type 0} → List Text → Asked → Machine ⊤ Q → Unnamed Q → List Entry → Report
bare_report names asked machine v journal = record {
  journal = journal;
  ends = bare_fates machine v;
  queued = bare_queues v;
  counts = bare_counts machine v;
  status = status_by (first_of (bare_fates machine v)) (bare_fates machine v);
  text = bare_text names asked machine v journal;
}
