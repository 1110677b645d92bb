use Rattle.herm_types.specs.View.{fact_view}
use Rattle.herm_types.proofs.Repeats.{repeats-step}
use Rattle.herm_types.proofs.declared.push_each_new.Goals as goal

pub loop-fact-preserved : goal.loop-fact-preserved
loop-fact-preserved c = λ before old. repeats-step fact_view before c.loop-fact.yielded _ _ _ (c.loop-fact.invariant before old) c.in_ok-push_new.ensures
