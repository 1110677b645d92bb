use Rattle.std.proofs.Common.{◌≡◌, ℕ, ◌*◌, ◌<◌, List, [], ◌∷◌, length, map, take, get_or, false, Some, slice_get, refl, sym, ◌∙◌, subst, arith, true≢false}
use Rattle.std.specs.declared.vec.Vec.{Vec}
use Rattle.std.specs.declared.alloc.Global.{Global}
use Rattle.std.proofs.lemmas.List.{take_all, take_more}
use Rattle.std.proofs.lemmas.Option.{slice_get_read, slice_get-get_or, slice_get_within}
use Rattle.herm_model.specs.Lists.{IsIn}
use Rattle.herm_model.specs.ControlPaths.{Flow}
use Rattle.herm_model.proofs.Lists.{length-map, each-joined, each-first, each-none}
use Rattle.herm_model.proofs.FactTests.{got-IsIn}
use Rattle.herm_flow.specs.declared.onward.OnwardPoint.{OnwardPoint}
use Rattle.herm_flow.specs.OnwardView.{onward_flow_view, onward_point_view}
use Rattle.herm_facts.specs.FactSets.{has}
use Rattle.herm_facts.specs.declared.fact_set.FactSet.{FactSet}
use Rattle.herm_check.specs.declared.search.Visit.{Visit}
use Rattle.herm_check.specs.Searched.{Places, slot_of, IsOf, HasVisits}
use Rattle.herm_check.proofs.Places.{first-node}
use Rattle.herm_check.proofs.Searched.{one-at, lost-nearest, lost-holds}
use Rattle.herm_check.proofs.search.lost_place.Goals as goal

-- the row of a point with facts not held
row-at : (points : List OnwardPoint) (places : Places) (at slot : ℕ) (row : Vec ℕ Global) → length places ≡ 2 * length (map onward_point_view points) → at < length points → slot ≡ slot_of at false → row ≡ get_or places slot row → slice_get places (slot_of at false) ≡ Some row
row-at points places at slot row rows within slot_is is =
    let many = length-map onward_point_view points in
    subst (λ n. slice_get places n ≡ Some row) slot_is (slice_get_read places (length places) slot row refl (omega (arith, many, slot_is, within, rows)) is)

place-in : (items row : List ℕ) (i : ℕ) → items ≡ row → i < length items → IsIn (get_or items i 0) row
place-in items row i same within = subst (IsIn (get_or items i 0)) same (got-IsIn items i (get_or items i 0) (slice_get-get_or items i 0 within))

-- the places of a row are those of visits
place-within : (flow : Flow) (vs : List Visit) (seen : List FactSet) (places : Places) → HasVisits flow vs seen places → (at k : ℕ) (row : Vec ℕ Global) → slice_get places (slot_of at false) ≡ Some row → IsIn k row.items → k < length vs
place-within flow vs seen places visits at k row here member = let h = visits.listed at false row k here member in slice_get_within vs k h.0 h.1

pub slot-requires : goal.slot-requires
slot-requires c =
    let many = length-map onward_point_view c.args._flow.now.points.items in
    omega (arith, many, c.requires.within, c.requires.visits.rows, c.args.search.now.places.small)

pub index-requires : goal.index-requires
index-requires c =
    let many = length-map onward_point_view c.args._flow.now.points.items in
    omega (arith, many, c.slot.ensures, c.requires.within, c.requires.visits.rows)

pub loop-place-init : goal.loop-place-init
loop-place-init c k member v is of = absurd member

pub index-requires-in-loop-place : goal.index-requires-in-loop-place
index-requires-in-loop-place c =
    let s = c.args.search.now in
    let items = c.deref-place-items.result.now in
    let row = c.index.result.now in
    let i = c.loop-place.place-index in
    let here = row-at c.args._flow.now.points.items s.places.items c.args.at c.slot.result row c.requires.visits.rows c.requires.within c.slot.ensures c.index.ensures in
    let within = place-within (onward_flow_view c.args._flow.now) s.visits.items s.seen.items s.places.items c.requires.visits c.args.at (get_or items i 0) row here (place-in items row.items i c.deref-place-items.ensures.value c.loop-place-test.true) in
    omega (arith, within, s.visits.ok)

pub returns-then-holds-clause-some : goal.returns-then-holds-clause-some
returns-then-holds-clause-some c f searched =
    let s = c.args.search.now in
    let points = c.args._flow.now.points.items in
    let items = c.deref-place-items.result.now in
    let row = c.index.result.now in
    let k = get_or items c.loop-place.place-index 0 in
    let v = c.index-in-loop-place.result.now in
    let flow = onward_flow_view c.args._flow.now in
    let here = row-at points s.places.items c.args.at c.slot.result row c.requires.visits.rows c.requires.within c.slot.ensures c.index.ensures in
    let member = place-in items row.items c.loop-place.place-index c.deref-place-items.ensures.value c.loop-place-test.true in
    let within = place-within flow s.visits.items s.seen.items s.places.items c.requires.visits c.args.at k row here member in
    lost-nearest flow f c.args.number s.visits.items s.seen.items s.places.items searched.visits searched.search (first-node (length points) (omega (arith, c.requires.within))) searched.left c.args.at row here k v member
    (slice_get_read s.visits.items (length s.visits.items) k v refl within c.index-in-loop-place.ensures) (sym c.holds.ensures ∙ c.if-holds.true)

pub loop-place-preserved : goal.loop-place-preserved
loop-place-preserved c k member =
    let s = c.args.search.now in
    let vs = s.visits.items in
    let points = c.args._flow.now.points.items in
    let items = c.deref-place-items.result.now in
    let row = c.index.result.now in
    let i = c.loop-place.place-index in
    let place = get_or items i 0 in
    let w = c.index-in-loop-place.result.now in
    let flow = onward_flow_view c.args._flow.now in
    let here = row-at points s.places.items c.args.at c.slot.result row c.requires.visits.rows c.requires.within c.slot.ensures c.index.ensures in
    let within = place-within flow vs s.seen.items s.places.items c.requires.visits c.args.at place row here (place-in items row.items i c.deref-place-items.ensures.value c.loop-place-test.true) in
    let at = slice_get_read vs (length vs) place w refl within c.index-in-loop-place.ensures in
    let none = sym c.holds.ensures ∙ c.if-holds.false in
    each-joined (λ n. (v : Visit) → slice_get vs n ≡ Some v → IsOf c.args.number v → ⊥) (take i items) (place ∷ []) c.loop-place.invariant
    (each-first (λ n. (v : Visit) → slice_get vs n ≡ Some v → IsOf c.args.number v → ⊥) place [] (λ v is of. true≢false (sym of ∙ subst (λ (x : Visit). has x.facts c.args.number ≡ false) (one-at (slice_get vs place) w v at is) none)) (each-none (λ n. (v : Visit) → slice_get vs n ≡ Some v → IsOf c.args.number v → ⊥)))
    k (subst (IsIn k) (take_more items i 0 c.loop-place-test.true) member)

pub returns-clause-none : goal.returns-clause-none
returns-clause-none c f searched =
    let s = c.args.search.now in
    let points = c.args._flow.now.points.items in
    let items = c.deref-place-items.result.now in
    let row = c.index.result.now in
    let here = row-at points s.places.items c.args.at c.slot.result row c.requires.visits.rows c.requires.within c.slot.ensures c.index.ensures in
    let all = take_all c.loop-place.place-index items c.loop-place-test.false ∙ c.deref-place-items.ensures.value in
    lost-holds (onward_flow_view c.args._flow.now) f c.args.number s.visits.items s.seen.items s.places.items searched.visits searched.search (first-node (length points) (omega (arith, c.requires.within))) searched.left c.args.at row here
    (λ k v member is of. c.loop-place.invariant k (subst (IsIn k) (sym all) member) v is of)
