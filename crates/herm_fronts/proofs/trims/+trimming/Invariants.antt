use Rattle.std.proofs.Common.{◌≡◌, ◌+◌, ◌*◌, ◌++◌, ◌∷◌, [], map, flat_map, drop}
use Rattle.herm_model.specs.Finalising.{excess_from}
use Rattle.herm_types.specs.View.{path_view}
use Rattle.herm_typestate.specs.Facts.{has_fact}
use Rattle.herm_fronts.specs.Held.{part_view, is_value_left}
use Rattle.herm_fronts.proofs.trims.+trimming.Given as goal

abbrev pub invariant-push_left_parts-parts : goal.invariant-push_left_parts-parts
invariant-push_left_parts-parts l =
    map path_view l.out.items ++ flat_map (λ part. excess_from (is_value_left (has_fact l.left.here) (has_fact l.left.kept)) l.depth l.types.shapes (path_view l.p ++ part.0 ∷ []) part.1) (map part_view (drop l.place-index l.parts))
    ≡ map path_view l.fn.out.items ++ flat_map (λ part. excess_from (is_value_left (has_fact l.left.here) (has_fact l.left.kept)) l.depth l.types.shapes (path_view l.p ++ part.0 ∷ []) part.1) (map part_view l.parts)

-- The measures: how many types may still stand on the way.
abbrev pub decreases-push_left : goal.decreases-push_left
decreases-push_left l = 2 * l.depth

abbrev pub decreases-push_left_parts : goal.decreases-push_left_parts
decreases-push_left_parts l = 2 * l.depth + 1
