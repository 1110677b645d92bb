use Rattle.std.proofs.Common.{◌≡◌, map, drop}
use Rattle.herm_model.specs.Lists.{all_pass}
use Rattle.herm_types.specs.View.{fact_view}
use Rattle.herm_values.specs.View.{value_view}
use Rattle.herm_suits.specs.Exact.{is_met}
use Rattle.herm_suits.proofs.exact.are_met.Given as goal

abbrev pub invariant-loop-fact : goal.invariant-loop-fact
invariant-loop-fact l = all_pass (is_met (value_view l.v)) (map fact_view (drop l.fact-index l.facts)) ≡ all_pass (is_met (value_view l.v)) (map fact_view l.facts)
