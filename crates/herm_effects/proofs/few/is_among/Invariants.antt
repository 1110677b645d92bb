use Rattle.std.proofs.Common.{◌≡◌, map, take, false}
use Rattle.herm_model.specs.Lists.{any_pass}
use Rattle.herm_model.specs.Paths.{same_fact}
use Rattle.herm_types.specs.View.{fact_view}
use Rattle.herm_effects.proofs.few.is_among.Given as goal

abbrev pub invariant-loop-other : goal.invariant-loop-other
invariant-loop-other l = any_pass (λ g. same_fact g (fact_view l.fact)) (map fact_view (take l.other-index l.facts)) ≡ false
