use Rattle.std.proofs.Common.{◌≡◌, ◌+◌, ◌*◌, ◌++◌, map, drop}
use Rattle.herm_model.specs.Values.{has_value}
use Rattle.herm_places.specs.Held.{seen_places}
use Rattle.herm_types.specs.View.{param_view, path_view}
use Rattle.herm_frames.specs.Excesses.{beyond, beyond_fields, beyond_parameters}
use Rattle.herm_frames.proofs.excess.+beyond.Given as goal

abbrev pub decreases-push_beyond : goal.decreases-push_beyond
decreases-push_beyond l = 3 * l.depth

abbrev pub decreases-push_fields : goal.decreases-push_fields
decreases-push_fields l = 3 * l.depth + 2

abbrev pub decreases-push_param : goal.decreases-push_param
decreases-push_param l = 3 * l.depth + 1

abbrev pub decreases-push_params : goal.decreases-push_params
decreases-push_params l = 3 * l.depth + 2

abbrev pub invariant-push_fields-fields : goal.invariant-push_fields-fields
invariant-push_fields-fields l =
    let here = has_value (seen_places l.variables) in
    map path_view l.out.items ++ beyond_fields (beyond here l.types.shapes l.depth) (path_view l.p) l.place (map (λ f. f.of.0) (drop l.part-index l.parts))
    ≡ map path_view l.fn.out.items ++ beyond_fields (beyond here l.types.shapes l.depth) (path_view l.p) 0 (map (λ f. f.of.0) l.parts)

abbrev pub invariant-push_params-params : goal.invariant-push_params-params
invariant-push_params-params l =
    let here = has_value (seen_places l.variables) in
    map path_view l.out.items ++ beyond_parameters here l.depth (beyond here l.types.shapes l.depth) (path_view l.p) l.place (map param_view (drop l.param-index l.params))
    ≡ map path_view l.fn.out.items ++ beyond_parameters here l.depth (beyond here l.types.shapes l.depth) (path_view l.p) 0 (map param_view l.params)
