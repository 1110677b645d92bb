use Rattle.std.proofs.Common.{◌≡◌, ◌∷◌, map}
use Rattle.herm_model.specs.Paths as model
use Rattle.herm_types.specs.View.{fact_view}
use Rattle.herm_types.specs.Chosen.{lists}
use Rattle.herm_types.proofs.facts.inits.Given as goal

abbrev pub invariant-loop-parts : goal.invariant-loop-parts
invariant-loop-parts l = map fact_view l.facts.items ≡ map (λ q. model.init (l.var.0 ∷ q)) (lists l.yielded)
