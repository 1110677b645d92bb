use Rattle.std.proofs.Common.{ℕ, length, refl, ◌∙◌, ap, arith}
use Rattle.std.proofs.lemmas.Option.{slice_get_read}
use Rattle.herm_model.specs.Lists.{any_pass}
use Rattle.herm_facts.specs.NumberSets.{has_at}
use Rattle.herm_check.specs.Effects.{IsEffectOf}
use Rattle.herm_check.proofs.Making.{each-more}
use Rattle.herm_check.proofs.effects.effects_by.Goals as goal

pub loop-edge-preserved : goal.loop-edge-preserved
loop-edge-preserved c =
    let edges = c.args.edges.now in
    let i = c.loop-edge.edge-index in
    let e = c.edge-item.result in
    each-more (IsEffectOf c.args.made.now c.args.gone.now) edges c.loop-edge.effects.items c.push.new.self.items i e _ c.loop-edge.invariant
    (slice_get_read edges (length edges) i e refl c.loop-edge-test.true c.edge-item.is)
    (λ j. (c.joined.ensures j ∙ ap (any_pass (λ (m : ℕ). has_at c.args.made.now m j)) c.as_slice.ensures.value, c.word_at.ensures j)) c.in_ok-push.ensures.items

pub returns-clause-many : goal.returns-clause-many
returns-clause-many c = omega (arith, c.loop-edge.invariant.0, c.loop-edge-test.false)

pub returns-clause-each : goal.returns-clause-each
returns-clause-each c = c.loop-edge.invariant.1
