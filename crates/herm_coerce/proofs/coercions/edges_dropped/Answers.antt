use Rattle.std.proofs.Common.{◌≡◌, ◌+◌, ◌<◌, ◌∷◌, ◌++◌, [], length, get_or, map, take, sym, ◌∙◌, ap, subst, arith}
use Rattle.std.proofs.lemmas.List.{map-append, map_more, length-take-le}
use Rattle.herm_model.proofs.Lists.{length-map}
use Rattle.herm_types.specs.View.{path_view}
use Rattle.herm_flow.specs.View.{point_view}
use Rattle.herm_check.specs.View.{labels_view}
use Rattle.herm_coerce.specs.Coerced.{ArePointsDropped}
use Rattle.herm_coerce.proofs.Rows.{points-more}
use Rattle.herm_coerce.proofs.coercions.edges_dropped.Goals as goal

pub loop-at-preserved : goal.loop-at-preserved
loop-at-preserved c =
    let labels = labels_view c.args.labels.now in
    let points = c.args.flow.now.points.items in
    let i = c.loop-at.at in
    let point = c.point-item.result in
    let so_far = map point_view (take i points) in
    let many : length c.as_slice-point-items.result.now ≡ length points = ap length c.as_slice-point-items.ensures.value in
    let within : i < length points = omega (arith, many) in
    let is = subst (λ xs. point ≡ get_or xs i point) c.as_slice-point-items.ensures.value c.point-item.is in
    let place : i ≡ 0 + length so_far = omega (arith, length-map point_view (take i points), length-take-le i points (omega arith)) in
    let next = map_more point_view points i point within ∙ ap (λ x. so_far ++ point_view x ∷ []) (sym is) in
    let more = ap (map (λ p. map (λ e. map path_view e.items) p.items)) c.in_ok-push.ensures.items ∙ map-append (λ p. map (λ e. map path_view e.items) p.items) c.loop-at.found.items (c.in_ok-dropped_at.field-0 ∷ []) in
    subst (λ ps. ArePointsDropped labels 0 ps (map (λ p. map (λ e. map path_view e.items) p.items) c.push.new.self.items)) (sym next)
    (subst (ArePointsDropped labels 0 (so_far ++ point_view point ∷ [])) (sym more)
    (points-more labels 0 i so_far (map (λ p. map (λ e. map path_view e.items) p.items) c.loop-at.found.items) (point_view point) (map (λ e. map path_view e.items) c.in_ok-dropped_at.field-0.items) place c.loop-at.invariant c.in_ok-dropped_at.ensures))
