-- What a report says, in the words of the language: ends, queues and numbers, with the journal's entries.
-- Language reference, "Reports".
use Rattle.std.specs.Prelude.{ℕ, List, [], ◌∷◌, map, nat_eq, cond}
use Rattle.herm_journal.specs.Entries.{Text}
use Rattle.herm_system.specs.Reports as headline
use Rattle.herm_system.specs.Summary as summary
use Rattle.herm_system.specs.ProcessFates.{Fate, ended_normally, ended_by, waits, spent_steps, spent_actions}
use Rattle.herm_base.specs.declared.numbers.PortNo.{PortNo}
use Rattle.herm_report.specs.declared.report.End.{End}
use Rattle.herm_report.specs.declared.report.End.TheVariants.{Normal, By}
use Rattle.herm_report.specs.declared.report.Spent.{Spent}
use Rattle.herm_report.specs.declared.report.Spent.TheVariants.{Steps, Actions}
use Rattle.herm_report.specs.declared.report.ProcEnd.{ProcEnd}
use Rattle.herm_report.specs.declared.report.ProcEnd.TheVariants.{Ended, Waiting, Stopped}
use Rattle.herm_report.specs.declared.report.Counts.{Counts}
use Rattle.herm_report.specs.declared.report.Report.{Report}

abbrev pub end_view : End → Fate
end_view Normal = ended_normally
end_view (By e) = ended_by e.0

abbrev pub spent_view : Spent → Fate
spent_view (Steps n) = spent_steps n
spent_view (Actions n) = spent_actions n

abbrev pub proc_end_view : ProcEnd → Fate
proc_end_view (Ended e) = end_view e
proc_end_view (Waiting ports) = waits (map (λ (p : PortNo). p.number) ports.items)
proc_end_view (Stopped s) = spent_view s

-- what became of each process
abbrev pub proc_ends_view : List ProcEnd → List Fate
proc_ends_view ends = map proc_end_view ends

-- each port's number with the texts of its queue
abbrev pub numbered_queues : List (PortNo × List Text) → List (ℕ × List Text)
numbered_queues queued = map (λ (q : PortNo × List Text). (q.0.number, q.1)) queued

-- the texts queued at the port with this number: none where there is no such port
abbrev pub queue_at : ℕ → List (ℕ × List Text) → List Text
queue_at number [] = []
queue_at number ((n, texts) ∷ queues) = cond (nat_eq n number) texts (queue_at number queues)

abbrev pub counts_view : Counts → summary.Counts
counts_view c = record {
  processes = c.processes;
  ended = c.ended;
  waiting = c.waiting;
  stopped = c.stopped;
  ports = c.ports;
  unclosed = c.unclosed;
  steps = c.steps;
  actions = c.actions;
  made = c.made;
  held = c.held;
  queued = c.queued;
  finalised = c.finalised;
}

-- the report of a run that ends with this status and text
abbrev pub report_view : Report → (status : ℕ) → (text : Text) → headline.Report
report_view r status text = record {
  journal = r.journal;
  ends = proc_ends_view r.ends.items;
  queued = numbered_queues r.queued.items;
  counts = counts_view r.counts;
  status = status;
  text = text;
}
