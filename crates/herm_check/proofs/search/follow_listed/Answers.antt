use Rattle.std.proofs.Common.{◌≡◌, ℕ, ◌<◌, List, map, take, length, get_or, sym, ap, subst, arith}
use Rattle.std.proofs.lemmas.Option.{slice_get-get_or}
use Rattle.std.proofs.lemmas.List.{take_more, take_all}
use Rattle.herm_model.specs.Paths.{Fact}
use Rattle.herm_model.proofs.Lists.{length-map}
use Rattle.herm_model.proofs.FactTests.{got-IsIn}
use Rattle.herm_types.specs.View.{fact_view}
use Rattle.herm_flow.specs.declared.onward.OnwardFlow.{OnwardFlow}
use Rattle.herm_flow.specs.declared.onward.OnwardPoint.{OnwardPoint}
use Rattle.herm_flow.specs.OnwardView.{onward_point_view, onward_flow_view}
use Rattle.herm_check.specs.View.{edge_in}
use Rattle.herm_check.specs.declared.effects.Effect.{Effect}
use Rattle.herm_check.specs.declared.search.Visit.{Visit}
use Rattle.herm_check.specs.Remaining.{HasAt, IsRestAt}
use Rattle.herm_check.proofs.AtVisits.{IsHere, at-visit, in-row, member, edge-there, leads-there, does}
use Rattle.herm_check.proofs.Following.{followed}
use Rattle.herm_check.proofs.Remaining.{AreTaken, taken-none, taken-more, taken-all, left-whole}
use Rattle.herm_check.proofs.search.follow_listed.Goals as goal

-- a number of the list is that of an edge
edge-within : (flow : OnwardFlow) (facts : List Fact) (old : List Visit) (k : ℕ) (u : Visit) (p : OnwardPoint) (row : List Effect) (numbers : List ℕ) → IsHere flow facts old k u p row → HasAt old k (λ v. IsRestAt (onward_flow_view flow) facts old v.point v.held v.facts numbers) → (i : ℕ) → i < length numbers → get_or numbers i 0 < length p.edges.items
edge-within flow facts old k u p row numbers h listed i inside =
    let rest = listed u h.visit in
    let within = rest.within (onward_point_view p) (get_or numbers i 0) h.point (got-IsIn numbers i (get_or numbers i 0) (slice_get-get_or numbers i 0 inside)) in
    let many = length-map (edge_in p) p.edges.items in
    omega (arith, within, many)

pub loop-i-init : goal.loop-i-init
loop-i-init c =
    let h = at-visit c.args.flow.now (map fact_view c.args._facts.now) c.args.effects.now c.args.search.now c.args.k c.index.result.now c.index-point.result.now c.index-effects-visit.result c.as_slice-row.result.now c.requires.search.visits c.requires.effects c.requires.within c.index.ensures c.index-point.ensures c.index-effects-visit.is c.as_slice-row.ensures.value in
    taken-none (onward_flow_view c.args.flow.now) (map fact_view c.args._facts.now) c.args.search.now c.args.k c.index.result.now (onward_point_view c.index-point.result.now).edges c.requires.search h.visit

pub index-edge-requires : goal.index-edge-requires
index-edge-requires c =
    let h = at-visit c.args.flow.now (map fact_view c.args._facts.now) c.args.effects.now c.args.search.now c.args.k c.index.result.now c.index-point.result.now c.index-effects-visit.result c.as_slice-row.result.now c.requires.search.visits c.requires.effects c.requires.within c.index.ensures c.index-point.ensures c.index-effects-visit.is c.as_slice-row.ensures.value in
    let inside = edge-within c.args.flow.now (map fact_view c.args._facts.now) c.args.search.now.visits.items c.args.k c.index.result.now c.index-point.result.now c.as_slice-row.result.now c.args.numbers.now h c.requires.listed c.loop-i.i c.loop-i-test.true in
    omega (arith, inside, c.index-point.result.now.edges.ok)

pub bounds-row-number : goal.bounds-row-number
bounds-row-number c =
    let h = at-visit c.args.flow.now (map fact_view c.args._facts.now) c.args.effects.now c.args.search.now c.args.k c.index.result.now c.index-point.result.now c.index-effects-visit.result c.as_slice-row.result.now c.requires.search.visits c.requires.effects c.requires.within c.index.ensures c.index-point.ensures c.index-effects-visit.is c.as_slice-row.ensures.value in
    let inside = edge-within c.args.flow.now (map fact_view c.args._facts.now) c.args.search.now.visits.items c.args.k c.index.result.now c.index-point.result.now c.as_slice-row.result.now c.args.numbers.now h c.requires.listed c.loop-i.i c.loop-i-test.true in
    in-row c.args.flow.now (map fact_view c.args._facts.now) c.args.search.now.visits.items c.args.k c.index.result.now c.index-point.result.now c.as_slice-row.result.now h (get_or c.args.numbers.now c.loop-i.i 0) inside

pub offset_bounds-row-number : goal.offset_bounds-row-number
offset_bounds-row-number c =
    let h = at-visit c.args.flow.now (map fact_view c.args._facts.now) c.args.effects.now c.args.search.now c.args.k c.index.result.now c.index-point.result.now c.index-effects-visit.result c.as_slice-row.result.now c.requires.search.visits c.requires.effects c.requires.within c.index.ensures c.index-point.ensures c.index-effects-visit.is c.as_slice-row.ensures.value in
    let inside = edge-within c.args.flow.now (map fact_view c.args._facts.now) c.args.search.now.visits.items c.args.k c.index.result.now c.index-point.result.now c.as_slice-row.result.now c.args.numbers.now h c.requires.listed c.loop-i.i c.loop-i-test.true in
    let in_row = in-row c.args.flow.now (map fact_view c.args._facts.now) c.args.search.now.visits.items c.args.k c.index.result.now c.index-point.result.now c.as_slice-row.result.now h (get_or c.args.numbers.now c.loop-i.i 0) inside in
    let many = ap length c.as_slice-row.ensures.value in
    omega (arith, in_row, many, c.index-effects-visit.result.small)

pub follow-requires-clause-within : goal.follow-requires-clause-within
follow-requires-clause-within c =
    let h = at-visit c.args.flow.now (map fact_view c.args._facts.now) c.args.effects.now c.args.search.now c.args.k c.index.result.now c.index-point.result.now c.index-effects-visit.result c.as_slice-row.result.now c.requires.search.visits c.requires.effects c.requires.within c.index.ensures c.index-point.ensures c.index-effects-visit.is c.as_slice-row.ensures.value in
    let inside = edge-within c.args.flow.now (map fact_view c.args._facts.now) c.args.search.now.visits.items c.args.k c.index.result.now c.index-point.result.now c.as_slice-row.result.now c.args.numbers.now h c.requires.listed c.loop-i.i c.loop-i-test.true in
    let there = leads-there c.args.flow.now (map fact_view c.args._facts.now) c.args.search.now.visits.items c.args.k c.index.result.now c.index-point.result.now c.as_slice-row.result.now h (get_or c.args.numbers.now c.loop-i.i 0) inside c.index-edge.result.now c.index-edge.ensures c.requires.there in
    omega (arith, there, c.loop-i.invariant.following.visits.many)

pub follow-requires-clause-few : goal.follow-requires-clause-few
follow-requires-clause-few c =
    let h = at-visit c.args.flow.now (map fact_view c.args._facts.now) c.args.effects.now c.args.search.now c.args.k c.index.result.now c.index-point.result.now c.index-effects-visit.result c.as_slice-row.result.now c.requires.search.visits c.requires.effects c.requires.within c.index.ensures c.index-point.ensures c.index-effects-visit.is c.as_slice-row.ensures.value in
    let deep = c.requires.search.visits.deep c.args.k c.index.result.now h.visit in
    omega (arith, deep, c.requires.within, c.args.search.now.visits.small)

pub loop-i-preserved : goal.loop-i-preserved
loop-i-preserved c =
    let flow = onward_flow_view c.args.flow.now in
    let facts = map fact_view c.args._facts.now in
    let old = c.args.search.now.visits.items in
    let u = c.index.result.now in
    let p = c.index-point.result.now in
    let before = c.loop-i.search in
    let now = c.follow.new.search in
    let e = c.index-edge.result.now in
    let edges = (onward_point_view p).edges in
    let numbers = c.args.numbers.now in
    let i = c.loop-i.i in
    let taken = c.loop-i.invariant in
    let h = at-visit c.args.flow.now (map fact_view c.args._facts.now) c.args.effects.now c.args.search.now c.args.k c.index.result.now c.index-point.result.now c.index-effects-visit.result c.as_slice-row.result.now c.requires.search.visits c.requires.effects c.requires.within c.index.ensures c.index-point.ensures c.index-effects-visit.is c.as_slice-row.ensures.value in
    let inside = edge-within c.args.flow.now (map fact_view c.args._facts.now) c.args.search.now.visits.items c.args.k c.index.result.now c.index-point.result.now c.as_slice-row.result.now c.args.numbers.now h c.requires.listed c.loop-i.i c.loop-i-test.true in
    let there = leads-there c.args.flow.now (map fact_view c.args._facts.now) c.args.search.now.visits.items c.args.k c.index.result.now c.index-point.result.now c.as_slice-row.result.now h (get_or c.args.numbers.now c.loop-i.i 0) inside e c.index-edge.ensures c.requires.there in
    subst (λ ns. AreTaken flow facts old now.visits.items now.seen.items now.places.items u edges ns) (sym (take_more numbers i 0 c.loop-i-test.true))
    (taken-more flow facts old before.visits.items now.visits.items before.seen.items now.seen.items before.places.items now.places.items u edges (take i numbers) (get_or numbers i 0) (edge_in p e) (edge-there c.args.flow.now (map fact_view c.args._facts.now) c.args.search.now.visits.items c.args.k c.index.result.now c.index-point.result.now c.as_slice-row.result.now h (get_or c.args.numbers.now c.loop-i.i 0) inside e c.index-edge.ensures) taken
    (followed flow facts old c.args.k u (onward_point_view p) (edge_in p e) h.visit h.point (member c.args.flow.now (map fact_view c.args._facts.now) c.args.search.now.visits.items c.args.k c.index.result.now c.index-point.result.now c.as_slice-row.result.now h (get_or c.args.numbers.now c.loop-i.i 0) inside e c.index-edge.ensures) there _ (does c.args.flow.now (map fact_view c.args._facts.now) c.args.search.now.visits.items c.args.k c.index.result.now c.index-point.result.now c.as_slice-row.result.now h (get_or c.args.numbers.now c.loop-i.i 0) inside e c.index-edge.ensures _)
    before.visits.items now.visits.items before.seen.items now.seen.items before.places.items now.places.items taken.followed taken.following (c.in_ok-follow.ensures p)))

pub returns-clause-search : goal.returns-clause-search
returns-clause-search c =
    let flow = onward_flow_view c.args.flow.now in
    let facts = map fact_view c.args._facts.now in
    let old = c.args.search.now.visits.items in
    let u = c.index.result.now in
    let p = c.index-point.result.now in
    let now = c.loop-i.search in
    let edges = (onward_point_view p).edges in
    let numbers = c.args.numbers.now in
    let taken = c.loop-i.invariant in
    let h = at-visit c.args.flow.now (map fact_view c.args._facts.now) c.args.effects.now c.args.search.now c.args.k c.index.result.now c.index-point.result.now c.index-effects-visit.result c.as_slice-row.result.now c.requires.search.visits c.requires.effects c.requires.within c.index.ensures c.index-point.ensures c.index-effects-visit.is c.as_slice-row.ensures.value in
    let all : take c.loop-i.i numbers ≡ numbers = take_all c.loop-i.i numbers (omega (arith, c.loop-i-test.false)) in
    left-whole flow facts c.args.search.now now c.args.k u (onward_point_view p) taken.followed c.requires.search h.visit h.point taken.following
    (taken-all flow facts old now.visits.items now.seen.items now.places.items u (onward_point_view p) numbers h.point (c.requires.listed u h.visit) (subst (λ ns. AreTaken flow facts old now.visits.items now.seen.items now.places.items u edges ns) all taken))
