use Rattle.std.proofs.Common.{◌≡◌, ◌∷◌, ◌++◌, [], map, drop}
use Rattle.herm_model.specs.Lists.{any_pass}
use Rattle.herm_model.specs.Paths.{init, same_fact}
use Rattle.herm_types.specs.View.{fact_view}
use Rattle.herm_values.specs.Meets.{parts_pass}
use Rattle.herm_values.specs.Parts.{parts_from}
use Rattle.herm_values.specs.View.{views_of}
use Rattle.herm_values.proofs.facts.are_said.Given as goal

abbrev pub invariant-places : goal.invariant-places
invariant-places l = parts_pass (λ i. any_pass (same_fact (init (0 ∷ (l.parts ++ i ∷ [])))) (map fact_view l.facts)) l.place (parts_from (views_of (drop l.place l.places))) ≡ parts_pass (λ i. any_pass (same_fact (init (0 ∷ (l.parts ++ i ∷ [])))) (map fact_view l.facts)) 0 (parts_from (views_of l.places))
