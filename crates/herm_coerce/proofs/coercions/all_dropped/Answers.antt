use Rattle.std.proofs.Common.{◌∷◌, ◌++◌, [], map, take, sym, ◌∙◌, ap, subst}
use Rattle.std.proofs.lemmas.List.{map-append, map_more}
use Rattle.herm_types.specs.View.{path_view}
use Rattle.herm_typestate.specs.Facts.{has_fact}
use Rattle.herm_flow.specs.View.{edge_view}
use Rattle.herm_check.specs.View.{labels_view}
use Rattle.herm_coerce.specs.Coerced.{AreDropped}
use Rattle.herm_coerce.proofs.Rows.{edges-more}
use Rattle.herm_coerce.proofs.coercions.all_dropped.Goals as goal

pub loop-edge-preserved : goal.loop-edge-preserved
loop-edge-preserved c =
    let labels = labels_view c.args.labels.now in
    let before = has_fact c.args.state.now in
    let edges = c.args.edges.now in
    let so_far = map edge_view (take c.loop-edge.edge-index edges) in
    let edge = c.edge-item.result in
    let next = map_more edge_view edges c.loop-edge.edge-index edge c.loop-edge-test.true ∙ ap (λ x. so_far ++ edge_view x ∷ []) (sym c.edge-item.is) in
    let more = ap (map (λ e. map path_view e.items)) c.in_ok-push.ensures.items ∙ map-append (λ e. map path_view e.items) c.loop-edge.found.items (c.in_ok-dropped.field-0 ∷ []) in
    subst (λ es. AreDropped labels before es (map (λ e. map path_view e.items) c.push.new.self.items)) (sym next)
    (subst (AreDropped labels before (so_far ++ edge_view edge ∷ [])) (sym more)
    (edges-more labels before so_far (map (λ e. map path_view e.items) c.loop-edge.found.items) (edge_view edge) (map path_view c.in_ok-dropped.field-0.items) c.loop-edge.invariant c.in_ok-dropped.ensures))
