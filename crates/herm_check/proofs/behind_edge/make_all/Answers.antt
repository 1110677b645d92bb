use Rattle.std.proofs.Common.{◌∙◌, sym, ap, ◌||◌, map, take}
use Rattle.herm_model.specs.Lists.{any_pass}
use Rattle.herm_model.specs.Paths.{same_fact}
use Rattle.herm_types.specs.View.{fact_view}
use Rattle.herm_typestate.specs.Facts.{has_fact}
use Rattle.herm_check.proofs.Carried.{any-more, made-more}
use Rattle.herm_check.proofs.behind_edge.make_all.Goals as goal

pub loop-fact-preserved : goal.loop-fact-preserved
loop-fact-preserved c f =
    let so_far = any_pass (same_fact f) (map fact_view (take c.loop-fact.fact-index c.args.makes.now)) in
    c.in_ok-make.ensures.ok f
    ∙ (ap (λ b. same_fact f (fact_view c.fact-item.result) || b) (c.loop-fact.invariant f)
    ∙ (made-more so_far (same_fact f (fact_view c.fact-item.result)) (has_fact c.args.state.now f)
    ∙ ap (λ b. b || has_fact c.args.state.now f) (sym (any-more (same_fact f) fact_view c.args.makes.now c.loop-fact.fact-index c.fact-item.result c.loop-fact-test.true c.fact-item.is))))
