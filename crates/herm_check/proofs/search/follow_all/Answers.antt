use Rattle.std.proofs.Common.{◌≡◌, ◌<◌, ◌++◌, ◌∷◌, [], map, take, length, sym, ap, subst, ◌∙◌, arith}
use Rattle.std.proofs.lemmas.List.{map_more, take_all}
use Rattle.herm_types.specs.View.{fact_view}
use Rattle.herm_flow.specs.OnwardView.{onward_point_view, onward_flow_view}
use Rattle.herm_check.specs.View.{edge_in}
use Rattle.herm_check.specs.Searched.{AreFollowed}
use Rattle.herm_check.proofs.AtVisits.{at-visit, in-row, member, leads-there, does}
use Rattle.herm_check.proofs.Following.{IsFollowing, followed}
use Rattle.herm_check.proofs.Remaining.{left-whole}
use Rattle.herm_check.proofs.search.follow_all.Goals as goal

pub bounds-row-number : goal.bounds-row-number
bounds-row-number c =
    let h = at-visit c.args.flow.now (map fact_view c.args._facts.now) c.args.effects.now c.args.search.now c.args.k c.index.result.now c.index-point.result.now c.index-effects-visit.result c.as_slice-row.result.now c.requires.search.visits c.requires.effects c.requires.within c.index.ensures c.index-point.ensures c.index-effects-visit.is c.as_slice-row.ensures.value in
    in-row c.args.flow.now (map fact_view c.args._facts.now) c.args.search.now.visits.items c.args.k c.index.result.now c.index-point.result.now c.as_slice-row.result.now h c.loop-number.number (omega (arith, c.loop-number-test.true, c.len-number-end.ensures, c.index-point.result.now.edges.ok))

pub offset_bounds-row-number : goal.offset_bounds-row-number
offset_bounds-row-number c =
    let h = at-visit c.args.flow.now (map fact_view c.args._facts.now) c.args.effects.now c.args.search.now c.args.k c.index.result.now c.index-point.result.now c.index-effects-visit.result c.as_slice-row.result.now c.requires.search.visits c.requires.effects c.requires.within c.index.ensures c.index-point.ensures c.index-effects-visit.is c.as_slice-row.ensures.value in
    let inside = in-row c.args.flow.now (map fact_view c.args._facts.now) c.args.search.now.visits.items c.args.k c.index.result.now c.index-point.result.now c.as_slice-row.result.now h c.loop-number.number (omega (arith, c.loop-number-test.true, c.len-number-end.ensures, c.index-point.result.now.edges.ok)) in
    let row = ap length c.as_slice-row.ensures.value in
    omega (arith, inside, row, c.index-effects-visit.result.small)

pub follow-requires-clause-within : goal.follow-requires-clause-within
follow-requires-clause-within c =
    let h = at-visit c.args.flow.now (map fact_view c.args._facts.now) c.args.effects.now c.args.search.now c.args.k c.index.result.now c.index-point.result.now c.index-effects-visit.result c.as_slice-row.result.now c.requires.search.visits c.requires.effects c.requires.within c.index.ensures c.index-point.ensures c.index-effects-visit.is c.as_slice-row.ensures.value in
    let there = leads-there c.args.flow.now (map fact_view c.args._facts.now) c.args.search.now.visits.items c.args.k c.index.result.now c.index-point.result.now c.as_slice-row.result.now h c.loop-number.number (omega (arith, c.loop-number-test.true, c.len-number-end.ensures, c.index-point.result.now.edges.ok)) c.index-edge.result.now c.index-edge.ensures c.requires.there in
    omega (arith, there, c.loop-number.invariant.visits.many)

pub follow-requires-clause-few : goal.follow-requires-clause-few
follow-requires-clause-few c =
    let h = at-visit c.args.flow.now (map fact_view c.args._facts.now) c.args.effects.now c.args.search.now c.args.k c.index.result.now c.index-point.result.now c.index-effects-visit.result c.as_slice-row.result.now c.requires.search.visits c.requires.effects c.requires.within c.index.ensures c.index-point.ensures c.index-effects-visit.is c.as_slice-row.ensures.value in
    let deep = c.requires.search.visits.deep c.args.k c.index.result.now h.visit in
    omega (arith, deep, c.requires.within, c.args.search.now.visits.small)

pub loop-number-preserved : goal.loop-number-preserved
loop-number-preserved c =
    let flow = onward_flow_view c.args.flow.now in
    let facts = map fact_view c.args._facts.now in
    let old = c.args.search.now.visits.items in
    let before = c.loop-number.search in
    let now = c.follow.new.search in
    let u = c.index.result.now in
    let p = c.index-point.result.now in
    let e = c.index-edge.result.now in
    let items = p.edges.items in
    let row = c.as_slice-row.result.now in
    let n = c.loop-number.number in
    let h = at-visit c.args.flow.now (map fact_view c.args._facts.now) c.args.effects.now c.args.search.now c.args.k c.index.result.now c.index-point.result.now c.index-effects-visit.result c.as_slice-row.result.now c.requires.search.visits c.requires.effects c.requires.within c.index.ensures c.index-point.ensures c.index-effects-visit.is c.as_slice-row.ensures.value in
    let inside : n < length items = omega (arith, c.loop-number-test.true, c.len-number-end.ensures, p.edges.ok) in
    let there = leads-there c.args.flow.now facts old c.args.k u p row h n inside e c.index-edge.ensures c.requires.there in
    subst (λ es. IsFollowing flow facts old now.visits.items now.seen.items now.places.items u es)
    (ap (λ x. map (edge_in p) (take n items) ++ edge_in p x ∷ []) c.index-edge.ensures ∙ sym (map_more (edge_in p) items n e inside))
    (followed flow facts old c.args.k u (onward_point_view p) (edge_in p e) h.visit h.point (member c.args.flow.now facts old c.args.k u p row h n inside e c.index-edge.ensures) there _ (does c.args.flow.now facts old c.args.k u p row h n inside e c.index-edge.ensures _)
    before.visits.items now.visits.items before.seen.items now.seen.items before.places.items now.places.items (map (edge_in p) (take n items)) c.loop-number.invariant (c.in_ok-follow.ensures p))

pub returns-clause-search : goal.returns-clause-search
returns-clause-search c =
    let flow = onward_flow_view c.args.flow.now in
    let facts = map fact_view c.args._facts.now in
    let vs = c.loop-number.search.visits.items in
    let u = c.index.result.now in
    let p = c.index-point.result.now in
    let items = p.edges.items in
    let h = at-visit c.args.flow.now (map fact_view c.args._facts.now) c.args.effects.now c.args.search.now c.args.k c.index.result.now c.index-point.result.now c.index-effects-visit.result c.as_slice-row.result.now c.requires.search.visits c.requires.effects c.requires.within c.index.ensures c.index-point.ensures c.index-effects-visit.is c.as_slice-row.ensures.value in
    let done = c.loop-number.invariant in
    let all : take c.loop-number.number items ≡ items = take_all c.loop-number.number items (omega (arith, c.loop-number-test.false, c.len-number-end.ensures, p.edges.ok)) in
    left-whole flow facts c.args.search.now c.loop-number.search c.args.k u (onward_point_view p) (map (edge_in p) (take c.loop-number.number items)) c.requires.search h.visit h.point done
    (λ j f there of. subst (λ es. AreFollowed f j vs u (map (edge_in p) es)) all (done.followed j f there of))
