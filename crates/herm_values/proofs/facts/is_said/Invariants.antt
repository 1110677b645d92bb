use Rattle.std.proofs.Common.{◌≡◌, ◌∷◌, ◌++◌, [], map, drop}
use Rattle.herm_model.specs.Lists.{any_pass}
use Rattle.herm_model.specs.Paths.{init, same_fact}
use Rattle.herm_types.specs.View.{fact_view}
use Rattle.herm_values.proofs.facts.is_said.Given as goal

abbrev pub invariant-loop-fact : goal.invariant-loop-fact
invariant-loop-fact l = any_pass (same_fact (init (0 ∷ (l.parts ++ l.step ∷ [])))) (map fact_view (drop l.fact-index l.facts)) ≡ any_pass (same_fact (init (0 ∷ (l.parts ++ l.step ∷ [])))) (map fact_view l.facts)
