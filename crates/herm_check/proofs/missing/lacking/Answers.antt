use Rattle.std.proofs.Common.{◌≡◌, ◌+◌, ◌<◌, ◌++◌, ◌∷◌, [], length, map, flat_map, take, get_or, true, false, Some, slice_get, ◌↔◌, refl, sym, ◌∙◌, ap, subst, arith}
use Rattle.std.proofs.lemmas.List.{map_more, take_all, length-take-le}
use Rattle.std.proofs.lemmas.Option.{slice_get_read}
use Rattle.herm_model.specs.Lists.{IsIn, map_or, numbered}
use Rattle.herm_model.specs.ControlPaths.{Holds}
use Rattle.herm_model.specs.MissingFacts.{demands_at}
use Rattle.herm_model.proofs.Lists.{length-map}
use Rattle.herm_typestate.specs.declared.state.State.{State}
use Rattle.herm_typestate.specs.Facts.{has_fact}
use Rattle.herm_flow.specs.OnwardView.{onward_point_view, onward_flow_view}
use Rattle.herm_check.specs.Missing.{AreNoted, AreMissing, missing_of}
use Rattle.herm_check.proofs.Places.{point-at}
use Rattle.herm_check.proofs.Reported.{demands-more, none-missing}
use Rattle.herm_check.proofs.missing.lacking.Goals as goal

pub loop-i-init : goal.loop-i-init
loop-i-init c = record {
  noted = subst (λ ns. AreNoted (onward_flow_view c.args.flow.now) c.args.labels.now ns) (sym c.in_ok-lost.ensures.numbers) c.in_ok-numbers.ensures.noted;
  searched = c.in_ok-lost.ensures.searched;
  missing = λ facts are. none-missing (onward_flow_view c.args.flow.now) (missing_of c.in_ok-lost.lost facts c.new-facts.result) c.new-facts.ensures.items;
}

-- the facts that the label of the point at a place lacks have numbers
pub push_point-requires-clause-noted : goal.push_point-requires-clause-noted
push_point-requires-clause-noted c f member lacks =
    let points = c.args.flow.now.points.items in
    let states = c.args.labels.now.at.items in
    let i = c.loop-i.i in
    let point = c.point-item.result in
    let state = c.index.result.now in
    let many : length c.as_slice-point-items.result.now ≡ length points = ap length c.as_slice-point-items.ensures.value in
    let within : i < length points = omega (arith, many) in
    let inside : i < length states = omega (arith, c.requires.many, many) in
    let is = subst (λ xs. point ≡ get_or xs i point) c.as_slice-point-items.ensures.value c.point-item.is in
    c.loop-i.invariant.noted i (onward_point_view point) state f (point-at points i point within is) (slice_get_read states (length states) i state refl inside c.index.ensures) member lacks

pub push_point-requires-clause-exact : goal.push_point-requires-clause-exact
push_point-requires-clause-exact c f =
    let points = c.args.flow.now.points.items in
    let states = c.args.labels.now.at.items in
    let i = c.loop-i.i in
    let state = c.index.result.now in
    let many : length c.as_slice-point-items.result.now ≡ length points = ap length c.as_slice-point-items.ensures.value in
    let within : i < length points = omega (arith, many) in
    let inside : i < length states = omega (arith, c.requires.many, many) in
    let is = slice_get_read states (length states) i state refl inside c.index.ensures in
    subst (λ b. (b ≡ true) ↔ Holds (onward_flow_view c.args.flow.now) f i) (ap (map_or false (λ (s : State). has_fact s f)) is) (c.requires.exact i f (c.requires.reached i within))

pub loop-i-preserved : goal.loop-i-preserved
loop-i-preserved c =
    let points = c.args.flow.now.points.items in
    let i = c.loop-i.i in
    let point = c.point-item.result in
    let so_far = map onward_point_view (take i points) in
    let many : length c.as_slice-point-items.result.now ≡ length points = ap length c.as_slice-point-items.ensures.value in
    let within : i < length points = omega (arith, many) in
    let is = subst (λ xs. point ≡ get_or xs i point) c.as_slice-point-items.ensures.value c.point-item.is in
    let place : i ≡ 0 + length so_far = omega (arith, length-map onward_point_view (take i points), length-take-le i points (omega arith)) in
    let next = map_more onward_point_view points i point within ∙ ap (λ x. so_far ++ onward_point_view x ∷ []) (sym is) in
    record {
      noted = c.loop-i.invariant.noted;
      searched = c.loop-i.invariant.searched;
      missing = λ facts are.
          subst (λ ds. AreMissing (onward_flow_view c.args.flow.now) ds (missing_of c.in_ok-lost.lost facts c.push_point.new.out))
          (ap (λ n. flat_map demands_at (numbered 0 so_far) ++ demands_at (n, onward_point_view point)) place ∙ (sym (demands-more 0 so_far (onward_point_view point)) ∙ ap (λ ps. flat_map demands_at (numbered 0 ps)) (sym next)))
          (c.in_ok-push_point.ensures (flat_map demands_at (numbered 0 so_far)) facts are (c.loop-i.invariant.missing facts are));
    }

pub returns : goal.returns
returns c =
    let points = c.args.flow.now.points.items in
    let many : length c.as_slice-point-items.result.now ≡ length points = ap length c.as_slice-point-items.ensures.value in
    let facts = c.into_facts.result in
    subst (λ ps. AreMissing (onward_flow_view c.args.flow.now) (flat_map demands_at (numbered 0 (map onward_point_view ps))) (missing_of c.in_ok-lost.lost facts c.loop-i.facts)) (take_all c.loop-i.i points (omega (arith, c.loop-i-test.false, many))) (c.loop-i.invariant.missing facts (λ f n. c.into_facts.ensures f n))
