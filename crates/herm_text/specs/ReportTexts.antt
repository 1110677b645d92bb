-- The text of a run by its report. Language reference, "The text of a run".
use Rattle.std.specs.Prelude.{ℕ, List, ◌++◌, flat_map, Option}
use Rattle.herm_model.specs.Lists.{list_of}
use Rattle.herm_journal.specs.Entries.{Text}
use Rattle.herm_journal.specs.Ports.{first_of}
use Rattle.herm_system.specs.ProcessFates.{Fate}
use Rattle.herm_system.specs.RunTexts.{Asked, plainly, with_summary, the_journal, journal_text}
use Rattle.herm_system.specs.Statuses.{status_line_by, spent_line}
use Rattle.herm_system.specs.Summary.{summary}
use Rattle.herm_system.specs.TextLines.{line}
use Rattle.herm_report.specs.View.{spent_view, proc_ends_view, numbered_queues, queue_at, counts_view}
use Rattle.herm_report.specs.declared.report.Report.{Report}
use Rattle.herm_report.specs.declared.report.Spent.{Spent}
use Rattle.herm_text.specs.StringsReadBack.{unquoted}

-- The strings that are queued at port 0, in order, each a line. Language reference, "The console".
abbrev pub console_of : Report → Text
console_of r = flat_map (λ t. line (unquoted t)) (queue_at 0 (numbered_queues r.queued.items))

-- what became of each process
abbrev pub ends_of : Report → List Fate
ends_of r = proc_ends_view r.ends.items

-- The line on the status. Language reference, "Statuses".
abbrev pub status_line_of : List Text → Report → Text
status_line_of names r = status_line_by names (first_of (ends_of r)) (ends_of r)

-- The text of a run, with what is asked for besides.
abbrev pub report_text : List Text → Asked → Report → Text
report_text names plainly r = console_of r ++ status_line_of names r
report_text names with_summary r = console_of r ++ status_line_of names r ++ summary (counts_view r.counts)
report_text names the_journal r = journal_text names r.journal

-- the lines on a process that a limit stopped, if there is one
abbrev pub lines_of_spent : Option (ℕ × Spent) → List Text
lines_of_spent o = list_of (λ (p : ℕ × Spent). spent_line (p.0, spent_view p.1)) o
