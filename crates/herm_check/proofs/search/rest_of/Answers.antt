use Rattle.std.proofs.Common.{◌≡◌, ℕ, ◌+◌, ◌<◌, ◌≤◌, ◌∙◌, Vec, Global, map, length, refl, sym, ap, subst, get_or, slice_get, arith}
use Rattle.herm_model.proofs.Lists.{length-map}
use Rattle.herm_types.specs.View.{fact_view}
use Rattle.herm_flow.specs.OnwardView.{onward_point_view, onward_flow_view}
use Rattle.herm_check.specs.View.{edge_in}
use Rattle.herm_check.specs.declared.effects.Effect.{Effect}
use Rattle.herm_check.specs.Searched.{slot_of, with_facts}
use Rattle.herm_check.specs.Remaining.{IsSeenBeyond, IsRestAt}
use Rattle.herm_check.proofs.AtVisits.{at-visit, in-row, edge-there, leads-there, does}
use Rattle.herm_check.proofs.Searched.{one-at}
use Rattle.herm_check.proofs.Remaining.{AreLookedAt, looked-closed, looked-listed, looked-all, seen-met, seen-whole}
use Rattle.herm_check.proofs.search.rest_of.Goals as goal
use Rattle.herm_check.proofs.search.rest_of.Goals.{then-not-is_closed+in_ok-push, else-not-is_closed}

pub bounds-row-number : goal.bounds-row-number
bounds-row-number c =
    let h = at-visit c.args.flow.now (map fact_view c.args._facts.now) c.args.effects.now c.args.search.now c.args.k c.index-visit.result.now c.index-point.result.now c.index-effects-visit.result c.as_slice-row.result.now c.requires.search.visits c.requires.effects c.requires.within c.index-visit.ensures c.index-point.ensures c.index-effects-visit.is c.as_slice-row.ensures.value in
    let inside : c.loop-number.number < length c.index-point.result.now.edges.items = omega (arith, c.loop-number-test.true, c.len-number-end.ensures, c.index-point.result.now.edges.ok) in
    in-row c.args.flow.now (map fact_view c.args._facts.now) c.args.search.now.visits.items c.args.k c.index-visit.result.now c.index-point.result.now c.as_slice-row.result.now h c.loop-number.number inside

pub offset_bounds-row-number : goal.offset_bounds-row-number
offset_bounds-row-number c =
    let h = at-visit c.args.flow.now (map fact_view c.args._facts.now) c.args.effects.now c.args.search.now c.args.k c.index-visit.result.now c.index-point.result.now c.index-effects-visit.result c.as_slice-row.result.now c.requires.search.visits c.requires.effects c.requires.within c.index-visit.ensures c.index-point.ensures c.index-effects-visit.is c.as_slice-row.ensures.value in
    let inside : c.loop-number.number < length c.index-point.result.now.edges.items = omega (arith, c.loop-number-test.true, c.len-number-end.ensures, c.index-point.result.now.edges.ok) in
    let in_row = in-row c.args.flow.now (map fact_view c.args._facts.now) c.args.search.now.visits.items c.args.k c.index-visit.result.now c.index-point.result.now c.as_slice-row.result.now h c.loop-number.number inside in
    let many = ap length c.as_slice-row.ensures.value in
    omega (arith, in_row, many, c.index-effects-visit.result.small)

pub is_closed-requires : goal.is_closed-requires
is_closed-requires c =
    let h = at-visit c.args.flow.now (map fact_view c.args._facts.now) c.args.effects.now c.args.search.now c.args.k c.index-visit.result.now c.index-point.result.now c.index-effects-visit.result c.as_slice-row.result.now c.requires.search.visits c.requires.effects c.requires.within c.index-visit.ensures c.index-point.ensures c.index-effects-visit.is c.as_slice-row.ensures.value in
    let inside : c.loop-number.number < length c.index-point.result.now.edges.items = omega (arith, c.loop-number-test.true, c.len-number-end.ensures, c.index-point.result.now.edges.ok) in
    let there = leads-there c.args.flow.now (map fact_view c.args._facts.now) c.args.search.now.visits.items c.args.k c.index-visit.result.now c.index-point.result.now c.as_slice-row.result.now h c.loop-number.number inside c.index-in-loop-number.result.now c.index-in-loop-number.ensures c.requires.there in
    let many = ap length c.as_slice.ensures.value in
    record { within = omega (arith, there, many, c.requires.search.visits.many) }

pub loop-number-preserved : goal.loop-number-preserved
loop-number-preserved c =
    let flow = onward_flow_view c.args.flow.now in
    let facts = map fact_view c.args._facts.now in
    let vs = c.args.search.now.visits.items in
    let u = c.index-visit.result.now in
    let p = c.index-point.result.now in
    let row = c.as_slice-row.result.now in
    let n = c.loop-number.number in
    let e = c.index-in-loop-number.result.now in
    let whole = c.index.result.now in
    let before = c.loop-number.edges.items in
    let edges = (onward_point_view p).edges in
    let effect : Effect = get_or row n (record { made = record { bits = 0 }; killed = record { bits = 0 } }) in
    let h = at-visit c.args.flow.now (map fact_view c.args._facts.now) c.args.effects.now c.args.search.now c.args.k c.index-visit.result.now c.index-point.result.now c.index-effects-visit.result c.as_slice-row.result.now c.requires.search.visits c.requires.effects c.requires.within c.index-visit.ensures c.index-point.ensures c.index-effects-visit.is c.as_slice-row.ensures.value in
    let inside : c.loop-number.number < length c.index-point.result.now.edges.items = omega (arith, c.loop-number-test.true, c.len-number-end.ensures, c.index-point.result.now.edges.ok) in
    let is = edge-there c.args.flow.now (map fact_view c.args._facts.now) c.args.search.now.visits.items c.args.k c.index-visit.result.now c.index-point.result.now c.as_slice-row.result.now h c.loop-number.number inside e c.index-in-loop-number.ensures in
    elim c.if-not-is_closed.branch [
      | then-not-is_closed+in_ok-push w ↦ subst (λ ns. AreLookedAt facts vs u.held whole edges (n + 1) ns) (sym (ap (λ (x : Vec ℕ Global). x.items) w.edges-is ∙ w.in_ok-push.ensures.items)) (looked-listed facts vs u.held whole edges n before c.loop-number.invariant (edge_in p e) is)
      | else-not-is_closed w ↦ subst (λ ns. AreLookedAt facts vs u.held whole edges (n + 1) ns) (sym (ap (λ (x : Vec ℕ Global). x.items) w.edges-is)) (looked-closed facts vs u.held whole edges n before c.loop-number.invariant (edge_in p e) is
          (seen-met flow facts vs c.args.search.now.seen.items c.requires.search.each (edge_in p e) effect (with_facts u whole) e.to (does c.args.flow.now (map fact_view c.args._facts.now) c.args.search.now.visits.items c.args.k c.index-visit.result.now c.index-point.result.now c.as_slice-row.result.now h c.loop-number.number inside e c.index-in-loop-number.ensures _) refl
          (subst (λ s. IsSeenBeyond s effect (with_facts u whole) e.to) c.as_slice.ensures.value (c.is_closed.ensures w.if-not-is_closed.false))))
    ]

pub returns-clause-facts : goal.returns-clause-facts
returns-clause-facts c v at =
    let h = at-visit c.args.flow.now (map fact_view c.args._facts.now) c.args.effects.now c.args.search.now c.args.k c.index-visit.result.now c.index-point.result.now c.index-effects-visit.result c.as_slice-row.result.now c.requires.search.visits c.requires.effects c.requires.within c.index-visit.ensures c.index-point.ensures c.index-effects-visit.is c.as_slice-row.ensures.value in
    let same = one-at (slice_get c.args.search.now.visits.items c.args.k) c.index-visit.result.now v h.visit at in
    seen-whole (onward_flow_view c.args.flow.now) (map fact_view c.args._facts.now) c.args.search.now.visits.items c.args.search.now.seen.items c.requires.search.each c.args.k v c.slot.result c.index.result.now at (subst (λ x. c.slot.result ≡ slot_of x.point x.held) same c.slot.ensures) c.index.ensures

pub returns-clause-edges : goal.returns-clause-edges
returns-clause-edges c v at =
    let flow = onward_flow_view c.args.flow.now in
    let facts = map fact_view c.args._facts.now in
    let vs = c.args.search.now.visits.items in
    let u = c.index-visit.result.now in
    let p = c.index-point.result.now in
    let row = c.as_slice-row.result.now in
    let h = at-visit c.args.flow.now (map fact_view c.args._facts.now) c.args.effects.now c.args.search.now c.args.k c.index-visit.result.now c.index-point.result.now c.index-effects-visit.result c.as_slice-row.result.now c.requires.search.visits c.requires.effects c.requires.within c.index-visit.ensures c.index-point.ensures c.index-effects-visit.is c.as_slice-row.ensures.value in
    let many = length-map (edge_in p) p.edges.items in
    let all : length (onward_point_view p).edges ≤ c.loop-number.number = omega (arith, many, c.loop-number-test.false, c.len-number-end.ensures, p.edges.ok) in
    subst (λ x. IsRestAt flow facts vs x.point x.held c.index.result.now c.loop-number.edges.items) (one-at (slice_get vs c.args.k) u v h.visit at)
    (looked-all flow facts vs u.point u.held c.index.result.now (onward_point_view p) c.loop-number.number c.loop-number.edges.items h.point all c.loop-number.invariant)
