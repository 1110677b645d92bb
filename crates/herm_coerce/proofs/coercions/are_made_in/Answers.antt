use Rattle.std.proofs.Common.{map, take, sym, ap, ◌∙◌}
use Rattle.std.proofs.lemmas.List.{take_all}
use Rattle.herm_model.specs.Lists.{any_pass}
use Rattle.herm_model.specs.Paths.{same_fact}
use Rattle.herm_types.specs.View.{fact_view}
use Rattle.herm_typestate.specs.Facts.{has_fact}
use Rattle.herm_check.proofs.Carried.{any-more}
use Rattle.herm_coerce.proofs.Carried.{in-set}
use Rattle.herm_coerce.proofs.coercions.are_made_in.Goals as goal

pub loop-fact-preserved : goal.loop-fact-preserved
loop-fact-preserved c = λ f h.
    in-set (has_fact c.args.low.now) (any_pass (same_fact f) (map fact_view (take c.loop-fact.fact-index c.args.makes.now))) f (fact_view c.fact-item.result) (c.loop-fact.invariant f) (sym c.holds.ensures ∙ c.if-not-holds.false)
    (sym (any-more (same_fact f) fact_view c.args.makes.now c.loop-fact.fact-index c.fact-item.result c.loop-fact-test.true c.fact-item.is) ∙ h)

pub returns : goal.returns
returns c = λ t f h. c.loop-fact.invariant f (ap (λ xs. any_pass (same_fact f) (map fact_view xs)) (take_all c.loop-fact.fact-index c.args.makes.now c.loop-fact-test.false) ∙ h)
