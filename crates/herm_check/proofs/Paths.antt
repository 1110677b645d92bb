-- Control paths go on along edges.
use Rattle.std.proofs.Common.{◌≡◌, ℕ, List, [], ◌∷◌, ◌++◌, Bool, true, false, cond, Some, slice_get, refl, subst}
use Rattle.herm_model.specs.Lists.{IsIn, any_pass}
use Rattle.herm_model.specs.Paths.{Fact, init, same_fact, path_of, is_at_or_below}
use Rattle.herm_model.specs.Targets.{node}
use Rattle.herm_model.specs.ControlPaths.{Edge, Point, Flow, Hop, held_after_edge, held_at_start, IsControlPath, IsReached, Lacks}
use Rattle.herm_model.specs.laws.FlowLaws.{EdgesDiffer}
use Rattle.herm_model.proofs.FactTests.{got-IsIn}
use Rattle.herm_model.proofs.Reached.{hop_by, hop-taken, walk-more}
use Rattle.herm_model.proofs.Walks.{walk-common}

-- what is lost whatever was held before is lost
pub lost_either : (e : Edge) (f : Fact) (a : Bool) → held_after_edge e f true ≡ false → held_after_edge e f a ≡ false
lost_either e f true h = h
lost_either e f false h = by (any_pass (same_fact f) e.makes) (any_pass (λ p. is_at_or_below p (path_of f)) e.kills) h
  where
    by : (made killed : Bool) → cond made true (cond killed false true) ≡ false → cond made true (cond killed false false) ≡ false
    by true killed k = k
    by false true k = refl
    by false false k = refl

-- what is held behind an edge was held before it, or is made
pub held_more : (e : Edge) (f : Fact) (a b : Bool) → (a ≡ true → b ≡ true) → held_after_edge e f a ≡ true → held_after_edge e f b ≡ true
held_more e f a b h k = by (any_pass (same_fact f) e.makes) (any_pass (λ p. is_at_or_below p (path_of f)) e.kills) k
  where
    by : (made killed : Bool) → cond made true (cond killed false a) ≡ true → cond made true (cond killed false b) ≡ true
    by true killed n = refl
    by false true n = n
    by false false n = h n

module _ (flow : Flow) (differ : EdgesDiffer flow) (i : ℕ) (p : Point) (e : Edge) (is : slice_get flow.points i ≡ Some p) (member : IsIn e p.edges) where
  taken : (f : Fact) (hops : List Hop) (value : Bool) → IsControlPath flow f hops (node i) value → IsControlPath flow f (hops ++ hop_by p e ∷ []) e.target (held_after_edge e f value)
  taken f hops value path = walk-more flow f hops (hop_by p e) flow.entry (node i) (held_at_start f) value e path (hop-taken flow differ i p e is (got-IsIn flow.points i p is) member)

  pub edge-reached : IsReached flow (node i) → IsReached flow e.target
  edge-reached r = (r.0 ++ hop_by p e ∷ [], held_after_edge e (init (0 ∷ [])) r.1, taken (init (0 ∷ [])) r.0 r.1 r.2)

  -- A fact that the label behind an edge lacks is not held on some path: on one on which it was not held before, or on
  -- any path, where the edge takes it away.
  pub edge-lacks : (f : Fact) (j : ℕ) (a : Bool) → e.target ≡ node j → IsReached flow (node i) → (a ≡ false → Lacks flow f i) → held_after_edge e f a ≡ false → Lacks flow f j
  edge-lacks f j false to r lacks h =
      let l = lacks refl in
      (l.0 ++ hop_by p e ∷ [], subst (λ t. IsControlPath flow f (l.0 ++ hop_by p e ∷ []) t false) to (subst (IsControlPath flow f (l.0 ++ hop_by p e ∷ []) e.target) h (taken f l.0 false l.1)))
  edge-lacks f j true to r lacks h =
      let path = walk-common flow (init (0 ∷ [])) f r.0 flow.entry (node i) (held_at_start (init (0 ∷ []))) r.1 (held_at_start f) r.2 in
      (r.0 ++ hop_by p e ∷ [], subst (λ t. IsControlPath flow f (r.0 ++ hop_by p e ∷ []) t false) to (subst (IsControlPath flow f (r.0 ++ hop_by p e ∷ []) e.target) (lost_either e f path.0 h) (taken f r.0 path.0 path.1)))
