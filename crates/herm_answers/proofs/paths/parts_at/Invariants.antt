use Rattle.std.proofs.Common.{◌≡◌, ◌++◌, ◌∷◌, [], map, take}
use Rattle.herm_types.specs.View.{path_view}
use Rattle.herm_answers.proofs.paths.parts_at.Given as goal

abbrev pub invariant-loop-place : goal.invariant-loop-place
invariant-loop-place l = map path_view l.found.items ≡ map (λ i. path_view l.p ++ i ∷ []) (take l.place-index l.places)
