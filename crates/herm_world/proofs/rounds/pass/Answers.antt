use Rattle.std.proofs.Common.{◌≡◌, ◌≤◌, length, sym, ◌∙◌, true≢false}
use Rattle.herm_world.specs.Going.{IsStepped}
use Rattle.herm_world.specs.declared.world.WorldStep.TheVariants as results
use Rattle.herm_world.proofs.GoingOn.{goes-nowhere, not-made, same-again, step-goes, step-alive}
use Rattle.herm_world.proofs.rounds.pass.Goals.{in-Memory, in_default}
use Rattle.herm_world.proofs.rounds.pass.Goals as goal

not-memory : (c : goal.Else-matches) → c.step-step.result ≡ results.Memory → ⊥
not-memory c = elim c.match-matches.branch [ in-Memory w ↦ λ e. true≢false (sym w.matches-is ∙ c.if-matches.false) | in_default w ↦ w.in_default.not-Memory ]

pub returns-then-not-is_made : goal.returns-then-not-is_made
returns-then-not-is_made c =
    let away : (1 ≤ c.args.p) × (c.args.p ≤ length c.args.world.now.processes) → ⊥ = λ made. true≢false (sym (c.is_made.ensures.made.1 made) ∙ c.if-not-is_made.true) in record {
      goes = goes-nowhere (IsStepped c.args.p) c.args.world.now (λ limits argument events w b shows. not-made c.args.world.now limits argument events w b shows c.args.p away);
      alive = c.requires.alive;
      same = same-again c.args.world.now;
      failed = λ e. absurd (true≢false (sym e));
    }

pub returns-clause-goes : goal.returns-clause-goes
returns-clause-goes c =
    let is = c.keeps.ensures.kept c.requires.alive in
    step-goes c.args.world.now c.step-step.new.self c.step-step.ensures.same c.args.p is.works c.step-step.result (not-memory c) c.step-step.ensures.stands c.step-step.ensures.stepped c.step-step.ensures.stays

pub returns-clause-alive : goal.returns-clause-alive
returns-clause-alive c =
    let is = c.keeps.ensures.kept c.requires.alive in
    step-alive c.args.world.now c.step-step.new.self c.step-step.ensures.same c.args.p is c.step-step.result (not-memory c) c.step-step.ensures.stepped c.step-step.ensures.stays
