-- Points and edges by their places, among those that contracts see.
use Rattle.std.proofs.Common.{◌≡◌, ◌<◌, ℕ, zero, suc, List, map, length, get_or, Some, option_map, slice_get, refl, ap, subst, ◌∙◌, arith}
use Rattle.std.proofs.lemmas.Option.{slice_get_read}
use Rattle.herm_model.specs.Lists.{IsIn}
use Rattle.herm_model.specs.Targets.{node}
use Rattle.herm_model.specs.laws.FlowLaws.{first_of}
use Rattle.herm_model.proofs.Lists.{in-map, slice_get-map}
use Rattle.herm_model.proofs.FactTests.{got-IsIn}
use Rattle.herm_flow.specs.declared.onward.OnwardEdge.{OnwardEdge}
use Rattle.herm_flow.specs.declared.onward.OnwardPoint.{OnwardPoint}
use Rattle.herm_flow.specs.OnwardView.{onward_point_view}
use Rattle.herm_check.specs.View.{edge_in}

pub edge-in : (p : OnwardPoint) (items : List OnwardEdge) (k : ℕ) (e : OnwardEdge) → items ≡ p.edges.items → k < length items → e ≡ get_or items k e → IsIn (edge_in p e) (onward_point_view p).edges
edge-in p items k e same within is = subst (λ es. IsIn (edge_in p e) (map (edge_in p) es)) same (in-map (edge_in p) e items (got-IsIn items k e (slice_get_read items (length items) k e refl within is)))

pub point-at : (points : List OnwardPoint) (i : ℕ) (p : OnwardPoint) → i < length points → p ≡ get_or points i p → slice_get (map onward_point_view points) i ≡ Some (onward_point_view p)
point-at points i p within is = slice_get-map onward_point_view points i ∙ ap (option_map onward_point_view) (slice_get_read points (length points) i p refl within is)

-- where there is a point, a process begins at the first one
pub first-node : (n : ℕ) → 0 < n → first_of n ≡ node 0
first-node zero h = absurd (omega arith)
first-node (suc n) h = refl
