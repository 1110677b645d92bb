use Rattle.std.proofs.Common.{◌++◌, ◌∷◌, [], cond, filter, map, sym, ap, ◌∙◌}
use Rattle.std.proofs.lemmas.List.{map-append}
use Rattle.herm_types.specs.View.{path_view}
use Rattle.herm_flow.specs.View.{edge_view}
use Rattle.herm_coerce.proofs.Kept.{kept, filter-push}
use Rattle.herm_coerce.proofs.coercions.held_behind.Goals as goal

pub loop-path-preserved : goal.loop-path-preserved
loop-path-preserved c =
    let keep = kept (edge_view c.args.edge.now) in
    c.in_ok-push_held.ensures
    ∙ (ap (λ ps. ps ++ cond (keep (path_view c.in-Some.path)) (path_view c.in-Some.path ∷ []) []) c.loop-path.invariant
    ∙ (sym (filter-push keep (map path_view c.loop-path.yielded) (path_view c.in-Some.path))
    ∙ ap (filter keep) (sym (map-append path_view c.loop-path.yielded _))))
