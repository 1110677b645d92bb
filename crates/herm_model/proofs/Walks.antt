-- What is held along walks: labels that flow, and walks that carry different facts.
use Rattle.std.proofs.Common.{◌≡◌, ℕ, List, [], ◌∷◌, Bool, true, false, cond, nat_eq, find, Option, Some, None, slice_get, option_and_then, refl, sym, ap, ◌∙◌, subst}
use Rattle.herm_model.specs.Lists.{IsIn, any_pass}
use Rattle.herm_model.specs.Paths.{Fact, same_fact, is_at_or_below, path_of}
use Rattle.herm_model.specs.Outcomes.{same_outcome}
use Rattle.herm_model.specs.Targets.{Target, node, end, end_by}
use Rattle.herm_model.specs.ControlPaths.{Edge, Point, Flow, Hop, Standing, held_after_edge, held_at_start, walk, edge_at, edge_from, Holds}
use Rattle.herm_model.specs.Labels.{Labels, label_at, AreInductive}
use Rattle.herm_model.proofs.Lists.{found-in}

-- an edge that a hop takes is one of the point's
pub edge_at-IsIn : (hop : Hop) (p : Point) (e : Edge) → edge_at hop (Some p) ≡ Some e → IsIn e p.edges
edge_at-IsIn hop p e h = go (nat_eq p.number hop.number) h
  where
    go : (b : Bool) → cond b (find (λ (d : Edge). same_outcome d.outcome hop.outcome) p.edges) None ≡ Some e → IsIn e p.edges
    go true h = (found-in _ e p.edges h).0
    go false h = cc

-- what is held before an edge in more cases is held behind it in more cases
held-rises : (e : Edge) (f : Fact) (low held : Bool) → (low ≡ true → held ≡ true) → held_after_edge e f low ≡ true → held_after_edge e f held ≡ true
held-rises e f low held h behind = go (any_pass (same_fact f) e.makes) (any_pass (λ p. is_at_or_below p (path_of f)) e.kills) behind
  where
    go : (made gone : Bool) → cond made true (cond gone false low) ≡ true → cond made true (cond gone false held) ≡ true
    go true gone b = refl
    go false true b = b
    go false false b = h b

-- an edge that a hop takes from here is an edge of the point here
pub record IsEdgeOf (flow : Flow) (here : Target) (e : Edge) : Type 0 where
  pub at : ℕ
  pub point : Point
  pub here-is : here ≡ node at
  pub point-is : slice_get flow.points at ≡ Some point
  pub edge : IsIn e point.edges

pub edge_from-IsEdgeOf : (flow : Flow) (here : Target) (hop : Hop) (e : Edge) → edge_from flow here hop ≡ Some e → IsEdgeOf flow here e
edge_from-IsEdgeOf flow (node i) hop e h = go (slice_get flow.points i) refl h
  where
    go : (o : Option Point) → slice_get flow.points i ≡ o → edge_at hop o ≡ Some e → IsEdgeOf flow (node i) e
    go None is h = absurd (let k : ⊥ = cc in k)
    go (Some p) is h = record { at = i; point = p; here-is = refl; point-is = is; edge = edge_at-IsIn hop p e h }
edge_from-IsEdgeOf flow end hop e h = absurd (let k : ⊥ = cc in k)
edge_from-IsEdgeOf flow (end_by x) hop e h = absurd (let k : ⊥ = cc in k)

-- the parts of equal standings
pub same_here : (s t : Standing) → Some s ≡ Some t → s.here ≡ t.here
same_here s t h = let e : s ≡ t = cc in ap (λ (u : Standing). u.here) e

pub same_held : (s t : Standing) → Some s ≡ Some t → s.held ≡ t.held
same_held s t h = let e : s ≡ t = cc in ap (λ (u : Standing). u.held) e

-- one edge keeps that the label's facts are held
edge_flows : (flow : Flow) (labels : Labels) → AreInductive flow labels → (f : Fact) (here : Target) (held : Bool) (e : Edge) → (label_at labels here f ≡ true → held ≡ true) → IsEdgeOf flow here e → label_at labels e.target f ≡ true → held_after_edge e f held ≡ true
edge_flows flow labels flows f here held e before of label =
    held-rises e f (labels of.at f) held
    (λ h. before (subst (λ t. label_at labels t f ≡ true) (sym of.here-is) h))
    (flows.goes_on of.at of.point e f of.point-is of.edge label)

-- along a walk that begins where the label's facts are held, they are held
pub walk_flows : (flow : Flow) (labels : Labels) → AreInductive flow labels → (f : Fact) (hops : List Hop) (here there : Target) (held value : Bool) → (label_at labels here f ≡ true → held ≡ true) → walk flow f hops here held ≡ Some (record { here = there; held = value }) → label_at labels there f ≡ true → value ≡ true
walk_flows flow labels flows f [] here there held value before leads label =
    sym (same_held _ _ leads) ∙ before (subst (λ t. label_at labels t f ≡ true) (sym (same_here _ _ leads)) label)
walk_flows flow labels flows f (hop ∷ hops) here there held value before leads label =
    go (edge_from flow here hop) refl (λ here held. walk_flows flow labels flows f hops here there held value) leads
  where
    go : (o : Option Edge) → edge_from flow here hop ≡ o
        → ((here : Target) (held : Bool) → (label_at labels here f ≡ true → held ≡ true) → walk flow f hops here held ≡ Some (record { here = there; held = value }) → label_at labels there f ≡ true → value ≡ true)
        → option_and_then (λ (e : Edge). walk flow f hops e.target (held_after_edge e f held)) o ≡ Some (record { here = there; held = value }) → value ≡ true
    go None is later leads = absurd (let k : ⊥ = cc in k)
    go (Some e) is later leads =
        later e.target (held_after_edge e f held) (edge_flows flow labels flows f here held e before (edge_from-IsEdgeOf flow here hop e is)) leads label

-- labels that flow are held on every path
pub flows-Holds : (flow : Flow) (labels : Labels) → AreInductive flow labels → (i : ℕ) (f : Fact) → labels i f ≡ true → Holds flow f i
flows-Holds flow labels flows i f label hops held leads =
    walk_flows flow labels flows f hops flow.entry (node i) (held_at_start f) held (flows.begins f) leads label

-- a walk that carries another fact leads to the same place
pub walk-common : (flow : Flow) (f g : Fact) (hops : List Hop) (here there : Target) (before after other : Bool) → walk flow f hops here before ≡ Some (record { here = there; held = after }) → (last : Bool) × (walk flow g hops here other ≡ Some (record { here = there; held = last }))
walk-common flow f g [] here there before after other leads = (other, subst (λ t. walk flow g [] here other ≡ Some (record { here = t; held = other })) (same_here _ _ leads) refl)
walk-common flow f g (hop ∷ hops) here there before after other leads =
    go (edge_from flow here hop) (λ e before other. walk-common flow f g hops e there before after other) leads
  where
    go : (o : Option Edge)
        → ((t : Target) (before other : Bool) → walk flow f hops t before ≡ Some (record { here = there; held = after }) → (last : Bool) × (walk flow g hops t other ≡ Some (record { here = there; held = last })))
        → option_and_then (λ (e : Edge). walk flow f hops e.target (held_after_edge e f before)) o ≡ Some (record { here = there; held = after })
        → (last : Bool) × (option_and_then (λ (e : Edge). walk flow g hops e.target (held_after_edge e g other)) o ≡ Some (record { here = there; held = last }))
    go None later leads = absurd (let k : ⊥ = cc in k)
    go (Some e) later leads = later e.target (held_after_edge e f before) (held_after_edge e g other) leads
