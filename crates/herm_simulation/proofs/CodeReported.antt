-- Reports of runs of code describe runs of the source.
use Rattle.std.proofs.Common.{◌≡◌, List, sym, ap, ap₂, subst, ◌∙◌}
use Rattle.herm_model.specs.Values.{Name}
use Rattle.herm_journal.specs.Entries.{Text}
use Rattle.herm_journal.specs.Journals.{IsRising}
use Rattle.herm_system.specs.Machines.{Machine}
use Rattle.herm_system.specs.ProcessFates.{fates}
use Rattle.herm_system.specs.RunTexts.{Asked, plainly, queues, text_of_run}
use Rattle.herm_system.specs.Statuses.{status_of}
use Rattle.herm_system.specs.Summary.{counts}
use Rattle.herm_system.specs.Systems.{Run}
use Rattle.herm_runs.specs.Joining.{LookAlike, turned}
use Rattle.herm_source.specs.AcceptedRuns.{Describes}
use Rattle.herm_source.specs.Instance.{source}
use Rattle.herm_checked.specs.laws.CheckedRuns.{report_of}
use Rattle.herm_checked.proofs.CheckedRuns.{checked-described}
use Rattle.herm_code_machine.specs.CodeInstance.{code_machine}
use Rattle.herm_code_machine.specs.CodeStates.{CodeState}
use Rattle.herm_simulation.specs.Simulating.{ready_image, Simulates}
use Rattle.herm_simulation.specs.laws.CodeReports.{CodeRunsAreDescribed, CodeReportsDescribe}
use Rattle.herm_simulation.proofs.RunsAlike.{source-runs_as_code}

-- runs that look alike have equal reports
reports-same : {P Q : Type 0} (a : Machine Name P) (b : Machine Name Q) (R : P → Q → Type 0) (r : Run P) (q : Run Q) (names : List Text) (asked : Asked) → LookAlike a b R r q → report_of a names asked r ≡ report_of b names asked q
reports-same a b R r q names asked h =
    ap₂ (λ journal ends. record { journal = journal; ends = ends; queued = queues r.system; counts = counts a r.system; status = status_of a r.system; text = text_of_run names asked a r }) h.journal h.ends
    ∙ ap₂ (λ queued counted. record { journal = q.journal; ends = fates b q.system; queued = queued; counts = counted; status = status_of a r.system; text = text_of_run names asked a r }) h.queued h.counts
    ∙ ap₂ (λ status text. record { journal = q.journal; ends = fates b q.system; queued = queues q.system; counts = counts b q.system; status = status; text = text }) h.status (h.text names asked)

pub code-runs_described : CodeRunsAreDescribed
code-runs_described exceptions program modules checked is limits argument names asked events q texts e rising final =
    let code = code_machine (ready_image program modules checked) in
    let r = source-runs_as_code exceptions program modules checked is limits argument events q texts e in
    subst (Describes modules limits argument names asked) (sym (reports-same code (source modules) (turned (Simulates program modules checked)) q r.0 names asked r.2))
    (checked-described exceptions program modules is.accepted limits argument names asked events r.0 texts r.1 (subst IsRising (r.2).journal rising) ((r.2).final.0 final))

pub code-reports_describe : CodeReportsDescribe
code-reports_describe exceptions program modules checked is limits argument names report texts of =
    let code = code_machine (ready_image program modules checked) in
    let q : Run (CodeState Name) = record { system = of.final; journal = report.journal } in
    let same : report_of code names plainly q ≡ report =
    ap₂ (λ ends queued. record { journal = report.journal; ends = ends; queued = queued; counts = counts code of.final; status = status_of code of.final; text = text_of_run names plainly code q }) of.ends of.queued
    ∙ ap₂ (λ counted status. record { journal = report.journal; ends = report.ends; queued = report.queued; counts = counted; status = status; text = text_of_run names plainly code q }) of.counts of.status
    ∙ ap (λ text. record { journal = report.journal; ends = report.ends; queued = report.queued; counts = report.counts; status = report.status; text = text }) (of.text names) in
    subst (Describes modules limits argument names plainly) same
    (code-runs_described exceptions program modules checked is limits argument names plainly (of.is_a_run).0 q texts (of.is_a_run).1 of.is_ordered of.is_final)
