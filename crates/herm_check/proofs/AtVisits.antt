-- The visit at a place, its point, and what that point's edges do.
use Rattle.std.proofs.Common.{◌≡◌, ℕ, ◌<◌, List, Vec, Global, map, length, get_or, Some, option_map, slice_get, refl, sym, ap, subst, ◌∙◌, arith}
use Rattle.std.proofs.lemmas.Option.{slice_get_read, slice_get-get_or}
use Rattle.herm_model.specs.Lists.{IsIn}
use Rattle.herm_model.specs.Paths.{Fact}
use Rattle.herm_model.specs.laws.FlowLaws.{IsThere}
use Rattle.herm_model.proofs.Lists.{length-map, slice_get-map}
use Rattle.herm_model.proofs.FactTests.{got-IsIn}
use Rattle.herm_flow.specs.declared.onward.OnwardEdge.{OnwardEdge}
use Rattle.herm_flow.specs.declared.onward.OnwardFlow.{OnwardFlow}
use Rattle.herm_flow.specs.declared.onward.OnwardPoint.{OnwardPoint}
use Rattle.herm_flow.specs.OnwardView.{onward_point_view, onward_flow_view}
use Rattle.herm_check.specs.View.{edge_in}
use Rattle.herm_check.specs.declared.effects.Effect.{Effect}
use Rattle.herm_check.specs.declared.search.Search.{Search}
use Rattle.herm_check.specs.declared.search.Visit.{Visit}
use Rattle.herm_check.specs.Effects.{IsEffect, AreEffects, AreEffectsIn}
use Rattle.herm_check.specs.Searched.{AreVisits}
use Rattle.herm_check.specs.Labelled.{LeadThere}
use Rattle.herm_check.proofs.Places.{edge-in, point-at}

pub record IsHere (flow : OnwardFlow) (facts : List Fact) (old : List Visit) (k : ℕ) (u : Visit) (p : OnwardPoint) (row : List Effect) : Type 0 where
  pub visit : slice_get old k ≡ Some u
  pub point : slice_get (onward_flow_view flow).points u.point ≡ Some (onward_point_view p)
  pub effects : AreEffects facts (onward_point_view p).edges row

pub at-visit : (flow : OnwardFlow) (facts : List Fact) (effects : List (Vec Effect Global)) (search : Search) (k : ℕ) (u : Visit) (p : OnwardPoint) (row : Vec Effect Global) (now : List Effect) → AreVisits (onward_flow_view flow) search → AreEffectsIn (onward_flow_view flow) facts effects
    → k < length search.visits.items → u ≡ get_or search.visits.items k u → p ≡ get_or flow.points.items u.point p → row ≡ get_or effects u.point row → now ≡ row.items → IsHere flow facts search.visits.items k u p now
at-visit flow facts effects search k u p row now visits are within is at in_row same =
    let visit = slice_get_read search.visits.items (length search.visits.items) k u refl within is in
    let inside : u.point < length (map onward_point_view flow.points.items) = visits.there k u visit in
    let many = length-map onward_point_view flow.points.items in
    let point = point-at flow.points.items u.point p (omega (arith, inside, many)) at in
    record {
      visit = visit;
      point = point;
      effects = subst (AreEffects facts (onward_point_view p).edges) (sym same) (are.each u.point (onward_point_view p) row point (slice_get_read effects (length effects) u.point row refl (omega (arith, inside, are.many)) in_row));
    }

module _ (flow : OnwardFlow) (facts : List Fact) (old : List Visit) (k : ℕ) (u : Visit) (p : OnwardPoint) (row : List Effect) (h : IsHere flow facts old k u p row) (n : ℕ) (inside : n < length p.edges.items) where
  pub in-row : n < length row
  in-row = let many = length-map (edge_in p) p.edges.items in omega (arith, inside, many, h.effects.many)

  module _ (e : OnwardEdge) (is : e ≡ get_or p.edges.items n e) where
    pub member : IsIn (edge_in p e) (onward_point_view p).edges
    member = edge-in p p.edges.items n e refl inside is

    pub leads-there : LeadThere (onward_flow_view flow) → IsThere (length (onward_flow_view flow).points) (edge_in p e).target
    leads-there there = there (onward_point_view p) (edge_in p e) (got-IsIn (onward_flow_view flow).points u.point (onward_point_view p) h.point) member

    pub edge-there : slice_get (onward_point_view p).edges n ≡ Some (edge_in p e)
    edge-there = slice_get-map (edge_in p) p.edges.items n ∙ ap (option_map (edge_in p)) (slice_get_read p.edges.items (length p.edges.items) n e refl inside is)

    pub does : (other : Effect) → IsEffect facts (edge_in p e) (get_or row n other)
    does other = h.effects.each n (edge_in p e) (get_or row n other) edge-there (slice_get-get_or row n other in-row)
