use Rattle.std.proofs.Common.{◌≡◌, [], None, false, sym, ap, subst, ◌∙◌}
use Rattle.std.specs.List.{All}
use Rattle.std.specs.Prelude.{◌≤◌, length, ℕ}
use Rattle.herm_journal.specs.Journals.{IsRising, part_of_process}
use Rattle.herm_process.specs.Processes.{ProcessState}
use Rattle.herm_world.specs.Reported.{IsAtRest, IsReported, all_entries}
use Rattle.herm_world.specs.Worlds.{IsWorld, WorldState}
use Rattle.herm_world.proofs.RunsReported.{few, frees, its-counts, its-ends, its-journal, its-queues, rests, rise}
use Rattle.herm_world.proofs.world.World.report.Goals as goal

pub report_of-requires-clause-rest : goal.report_of-requires-clause-rest
report_of-requires-clause-rest c =
    let is = subst IsWorld c.self.view_is (c.self.invariant c.if-self.false).1 in
    subst (λ (w : WorldState). All IsAtRest w.processes) (sym c.self.view_is) (rests c.args.self is.works (c.requires.nobody (sym (ap (λ (w : WorldState). w.is_dead) c.self.view_is) ∙ c.if-self.false)) is.limits is.argument is.events is.run is.bare is.shows)

pub report_of-requires-clause-free : goal.report_of-requires-clause-free
report_of-requires-clause-free c =
    let is = subst IsWorld c.self.view_is (c.self.invariant c.if-self.false).1 in
    subst (λ (w : WorldState). All (λ (p : ProcessState). p.ordered ≡ None) w.processes) (sym c.self.view_is) (frees c.args.self is.works (c.requires.nobody (sym (ap (λ (w : WorldState). w.is_dead) c.self.view_is) ∙ c.if-self.false)) is.limits is.argument is.events is.run is.bare is.shows)

pub report_of-requires-clause-few : goal.report_of-requires-clause-few
report_of-requires-clause-few c =
    let is = subst IsWorld c.self.view_is (c.self.invariant c.if-self.false).1 in
    subst (λ (w : WorldState). length w.processes ≤ 1024) (sym c.self.view_is) (few c.args.self is.works (c.requires.nobody (sym (ap (λ (w : WorldState). w.is_dead) c.self.view_is) ∙ c.if-self.false)) is.limits is.argument is.events is.run is.bare is.shows is.few)

pub report_of-requires-clause-rise : goal.report_of-requires-clause-rise
report_of-requires-clause-rise c =
    let is = subst IsWorld c.self.view_is (c.self.invariant c.if-self.false).1 in
    subst (λ (w : WorldState). (p : ℕ) → IsRising (part_of_process p (all_entries w.processes))) (sym c.self.view_is) (rise c.args.self is.works (c.requires.nobody (sym (ap (λ (w : WorldState). w.is_dead) c.self.view_is) ∙ c.if-self.false)) is.limits is.argument is.events is.run is.bare is.shows)

pub returns-clause-journal : goal.returns-clause-journal
returns-clause-journal c limits argument events w b shows =
    let is = subst IsWorld c.self.view_is (c.self.invariant c.if-self.false).1 in
    its-journal c.args.self is.works (c.requires.nobody (sym (ap (λ (w : WorldState). w.is_dead) c.self.view_is) ∙ c.if-self.false)) limits argument events w b shows c.in_ok-report.report
    (subst (λ (w : WorldState). IsReported w.processes w.places.ports w.places.replies c.in_ok-report.report) c.self.view_is c.in_ok-report.ensures.reported)

pub returns-clause-ends : goal.returns-clause-ends
returns-clause-ends c limits argument events w b shows =
    let is = subst IsWorld c.self.view_is (c.self.invariant c.if-self.false).1 in
    its-ends c.args.self is.works (c.requires.nobody (sym (ap (λ (w : WorldState). w.is_dead) c.self.view_is) ∙ c.if-self.false)) limits argument events w b shows c.in_ok-report.report
    (subst (λ (w : WorldState). IsReported w.processes w.places.ports w.places.replies c.in_ok-report.report) c.self.view_is c.in_ok-report.ensures.reported)

pub returns-clause-queued : goal.returns-clause-queued
returns-clause-queued c limits argument events w b shows =
    let is = subst IsWorld c.self.view_is (c.self.invariant c.if-self.false).1 in
    its-queues c.args.self is.works (c.requires.nobody (sym (ap (λ (w : WorldState). w.is_dead) c.self.view_is) ∙ c.if-self.false)) limits argument events w b shows c.in_ok-report.report
    (subst (λ (w : WorldState). IsReported w.processes w.places.ports w.places.replies c.in_ok-report.report) c.self.view_is c.in_ok-report.ensures.reported)

pub returns-clause-counts : goal.returns-clause-counts
returns-clause-counts c limits argument events w b shows =
    let is = subst IsWorld c.self.view_is (c.self.invariant c.if-self.false).1 in
    its-counts c.args.self is.works (c.requires.nobody (sym (ap (λ (w : WorldState). w.is_dead) c.self.view_is) ∙ c.if-self.false)) limits argument events w b shows c.in_ok-report.report
    (subst (λ (w : WorldState). IsReported w.processes w.places.ports w.places.replies c.in_ok-report.report) c.self.view_is c.in_ok-report.ensures.reported)
