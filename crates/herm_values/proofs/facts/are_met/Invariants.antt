use Rattle.std.proofs.Common.{◌≡◌, ◌&&◌, map, drop}
use Rattle.herm_model.specs.Lists.{all_pass}
use Rattle.herm_model.specs.Values.{part, no_parts}
use Rattle.herm_model.specs.FactsOfValues.{satisfies}
use Rattle.herm_types.specs.View.{fact_view}
use Rattle.herm_values.specs.Meets.{is_closed}
use Rattle.herm_values.specs.View.{value_view}
use Rattle.herm_values.proofs.facts.are_met.Given as goal

abbrev pub invariant-loop-fact : goal.invariant-loop-fact
invariant-loop-fact l = all_pass (λ f. satisfies (part (value_view l.v) no_parts) f && is_closed (part (value_view l.v) no_parts) (map fact_view l.facts) f) (map fact_view (drop l.fact-index l.some)) ≡ all_pass (λ f. satisfies (part (value_view l.v) no_parts) f && is_closed (part (value_view l.v) no_parts) (map fact_view l.facts) f) (map fact_view l.some)
