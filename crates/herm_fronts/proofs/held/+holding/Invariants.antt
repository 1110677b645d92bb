use Rattle.std.proofs.Common.{◌≡◌, ◌+◌, ◌*◌, ◌++◌, ◌∷◌, [], map, flat_map, cond, drop, true}
use Rattle.herm_model.specs.Paths as paths
use Rattle.herm_types.specs.View.{path_view, fact_view}
use Rattle.herm_typestate.specs.Facts.{has_fact}
use Rattle.herm_fronts.specs.Held.{part_view, held_from}
use Rattle.herm_fronts.proofs.held.+holding.Given as goal

-- Each invariant: what was pushed so far, joined with what is left, is the whole.
abbrev pub invariant-push_parts-parts : goal.invariant-push_parts-parts
invariant-push_parts-parts l =
    map fact_view l.out.items ++ flat_map (λ part. held_from l.types.shapes (has_fact l.state) l.depth l.at.within part.1 (path_view l.at.path ++ part.0 ∷ [])) (map part_view (drop l.place-index l.parts))
    ≡ map fact_view l.fn.out.items ++ flat_map (λ part. held_from l.types.shapes (has_fact l.state) l.depth l.at.within part.1 (path_view l.at.path ++ part.0 ∷ [])) (map part_view l.parts)

abbrev pub invariant-push_components-components : goal.invariant-push_components-components
invariant-push_components-components l =
    map fact_view l.out.items ++ flat_map (λ part. cond (has_fact l.state (paths.case (path_view l.at.path) part.0)) (paths.case (path_view l.at.path) part.0 ∷ held_from l.types.shapes (has_fact l.state) l.depth true part.1 (path_view l.at.path ++ part.0 ∷ [])) []) (map part_view (drop l.place-index l.parts))
    ≡ map fact_view l.fn.out.items ++ flat_map (λ part. cond (has_fact l.state (paths.case (path_view l.at.path) part.0)) (paths.case (path_view l.at.path) part.0 ∷ held_from l.types.shapes (has_fact l.state) l.depth true part.1 (path_view l.at.path ++ part.0 ∷ [])) []) (map part_view l.parts)

-- The measures: how many types may still stand on the way.
abbrev pub decreases-push_held : goal.decreases-push_held
decreases-push_held l = 4 * l.depth

abbrev pub decreases-push_inside : goal.decreases-push_inside
decreases-push_inside l = 4 * l.depth + 3

abbrev pub decreases-push_parts : goal.decreases-push_parts
decreases-push_parts l = 4 * l.depth + 1

abbrev pub decreases-push_components : goal.decreases-push_components
decreases-push_components l = 4 * l.depth + 2

abbrev pub decreases-push_component : goal.decreases-push_component
decreases-push_component l = 4 * l.depth + 1
