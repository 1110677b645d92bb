use Rattle.std.proofs.Common.{◌+◌, map, sym, ◌∙◌, subst, arith}
use Rattle.std.proofs.lemmas.List.{length-map}
use Rattle.herm_model.specs.ControlPaths.{held_at_start}
use Rattle.herm_types.specs.View.{fact_view}
use Rattle.herm_check.proofs.Making.{ArePicked, at-seen, picked-one, picked-not, picked-all}
use Rattle.herm_check.proofs.effects.held_first.Goals as goal
use Rattle.herm_check.proofs.effects.held_first.Goals.{then-is_held_at_start, else-is_held_at_start}

pub loop-number-preserved : goal.loop-number-preserved
loop-number-preserved c =
    let facts = map fact_view c.args.facts.now in
    let n = c.loop-number.number in
    let x = c.index-facts-number.result in
    let here = at-seen fact_view c.args.facts.now n x c.loop-number-test.true c.index-facts-number.is in
    elim c.if-is_held_at_start.branch [
      | then-is_held_at_start w ↦
          subst (ArePicked held_at_start facts (n + 1)) (sym w.held-is) (picked-one held_at_start facts n c.loop-number.held (fact_view x) c.loop-number.invariant here w.with-held.result w.with-held.ensures (sym c.is_held_at_start.ensures ∙ w.if-is_held_at_start.true))
      | else-is_held_at_start w ↦
          subst (ArePicked held_at_start facts (n + 1)) (sym w.held-is) (picked-not held_at_start facts n c.loop-number.held (fact_view x) c.loop-number.invariant here (sym c.is_held_at_start.ensures ∙ w.if-is_held_at_start.false))
    ]

pub returns : goal.returns
returns c = picked-all held_at_start (map fact_view c.args.facts.now) c.loop-number.number c.loop-number.held c.loop-number.invariant (omega (arith, c.loop-number-test.false, length-map c.args.facts.now fact_view))
