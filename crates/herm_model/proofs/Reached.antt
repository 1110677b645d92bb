-- Control paths lead to the targets that edges lead to: the hop that takes an edge, and walks that go on with it.
use Rattle.std.proofs.Common.{◌≡◌, ◌↔◌, ℕ, List, [], ◌∷◌, ◌++◌, map, Bool, true, false, cond, nat_eq, find, Option, Some, None, slice_get, option_and_then, refl, sym, ap, ◌∙◌, subst, inl, inr, true≢false}
use Rattle.std.proofs.lemmas.Bool.{eq-eqb, eqb-true}
use Rattle.herm_model.specs.Lists.{IsIn}
use Rattle.herm_model.specs.Paths.{Fact, init}
use Rattle.herm_model.specs.Statements.{Differ}
use Rattle.herm_model.specs.Outcomes.{Outcome, ok, is_true, is_false, turn, done, component, arm, raised, same_outcome}
use Rattle.herm_model.specs.Targets.{Target, node}
use Rattle.herm_model.specs.ControlPaths.{Edge, Point, Flow, Hop, Standing, held_after_edge, held_at_start, walk, edge_at, edge_from, IsReached}
use Rattle.herm_model.specs.laws.FlowLaws.{EdgesDiffer, IsLedTo, begins, goes_on}
use Rattle.herm_model.proofs.Lists.{in-map}
use Rattle.herm_model.proofs.FactTests.{got-IsIn}
use Rattle.herm_model.proofs.Walks.{edge_from-IsEdgeOf, IsEdgeOf, same_here, same_held}

-- a hop from a target that edges lead to leads to one
hop-IsLedTo : (flow : Flow) (here : Target) (e : Edge) → IsLedTo flow here → IsEdgeOf flow here e → IsLedTo flow e.target
hop-IsLedTo flow here e led of = goes_on of.at of.point e (subst (IsLedTo flow) of.here-is led) of.point-is of.edge

walk-IsLedTo : (flow : Flow) (f : Fact) (hops : List Hop) (here there : Target) (held value : Bool) → IsLedTo flow here → walk flow f hops here held ≡ Some (record { here = there; held = value }) → IsLedTo flow there
walk-IsLedTo flow f [] here there held value led leads = subst (IsLedTo flow) (same_here _ _ leads) led
walk-IsLedTo flow f (hop ∷ hops) here there held value led leads =
    go (edge_from flow here hop) refl (λ here held. walk-IsLedTo flow f hops here there held value) leads
  where
    go : (o : Option Edge) → edge_from flow here hop ≡ o
        → ((here : Target) (held : Bool) → IsLedTo flow here → walk flow f hops here held ≡ Some (record { here = there; held = value }) → IsLedTo flow there)
        → option_and_then (λ (e : Edge). walk flow f hops e.target (held_after_edge e f held)) o ≡ Some (record { here = there; held = value }) → IsLedTo flow there
    go None is later leads = absurd (let k : ⊥ = cc in k)
    go (Some e) is later leads = later e.target (held_after_edge e f held) (hop-IsLedTo flow here e led (edge_from-IsEdgeOf flow here hop e is)) leads

-- outcomes that are the same are equal, and each is the same as itself
pub same_outcome-is : (o q : Outcome) → same_outcome o q ≡ true → o ≡ q
same_outcome-is ok ok h = refl
same_outcome-is is_true is_true h = refl
same_outcome-is is_false is_false h = refl
same_outcome-is turn turn h = refl
same_outcome-is done done h = refl
same_outcome-is (component c) (component d) h = ap component (eqb-true c d h)
same_outcome-is (arm m) (arm n) h = ap arm (eqb-true m n h)
same_outcome-is (raised e) (raised f) h = ap raised (eqb-true e f h)
same_outcome-is _ _ h = cc

pub same_outcome_self : (o : Outcome) → same_outcome o o ≡ true
same_outcome_self ok = refl
same_outcome_self is_true = refl
same_outcome_self is_false = refl
same_outcome_self turn = refl
same_outcome_self done = refl
same_outcome_self (component c) = eq-eqb c c refl
same_outcome_self (arm n) = eq-eqb n n refl
same_outcome_self (raised e) = eq-eqb e e refl

-- where outcomes differ, an edge is found by its outcome
found : (edges : List Edge) (e : Edge) → Differ (map (λ (d : Edge). d.outcome) edges) → IsIn e edges → find (λ (d : Edge). same_outcome d.outcome e.outcome) edges ≡ Some e
found [] e h member = absurd member
found (d ∷ edges) e h (inl same) = go (same_outcome d.outcome e.outcome) (subst (λ (x : Edge). same_outcome d.outcome x.outcome ≡ true) (sym same) (same_outcome_self d.outcome))
  where
    go : (b : Bool) → b ≡ true → cond b (Some d) (find (λ (d : Edge). same_outcome d.outcome e.outcome) edges) ≡ Some e
    go true t = ap Some (sym same)
    go false t = absurd (true≢false (sym t))
found (d ∷ edges) e h (inr member) = go (same_outcome d.outcome e.outcome) refl (found edges e h.1 member)
  where
    go : (b : Bool) → same_outcome d.outcome e.outcome ≡ b → find (λ (d : Edge). same_outcome d.outcome e.outcome) edges ≡ Some e → cond b (Some d) (find (λ (d : Edge). same_outcome d.outcome e.outcome) edges) ≡ Some e
    go true t later = absurd (h.0 (subst (λ o. IsIn o (map (λ (d : Edge). d.outcome) edges)) (sym (same_outcome-is d.outcome e.outcome t)) (in-map (λ (d : Edge). d.outcome) e edges member)))
    go false t later = later

-- the hop that takes an edge
abbrev pub hop_by : Point → Edge → Hop
hop_by p e = record { number = p.number; outcome = e.outcome }

pub hop-taken : (flow : Flow) → EdgesDiffer flow → (i : ℕ) (p : Point) (e : Edge) → slice_get flow.points i ≡ Some p → IsIn p flow.points → IsIn e p.edges → edge_from flow (node i) (hop_by p e) ≡ Some e
hop-taken flow differ i p e is at member = ap (edge_at (hop_by p e)) is ∙ number (nat_eq p.number p.number) (eq-eqb p.number p.number refl)
  where
    number : (b : Bool) → b ≡ true → cond b (find (λ (d : Edge). same_outcome d.outcome e.outcome) p.edges) None ≡ Some e
    number true t = found p.edges e (differ p at) member
    number false t = absurd (true≢false (sym t))

abbrev pub standing_at : Target → Bool → Option Standing
standing_at t held = Some (record { here = t; held = held })

-- one hop more at the end of a walk
pub walk-more : (flow : Flow) (f : Fact) (hops : List Hop) (hop : Hop) (here there : Target) (held value : Bool) (e : Edge) → walk flow f hops here held ≡ standing_at there value → edge_from flow there hop ≡ Some e → walk flow f (hops ++ hop ∷ []) here held ≡ standing_at e.target (held_after_edge e f value)
walk-more flow f [] hop here there held value e leads is =
    let moved : edge_from flow here hop ≡ Some e = subst (λ t. edge_from flow t hop ≡ Some e) (sym (same_here _ _ leads)) is in
    ap (option_and_then (λ (d : Edge). standing_at d.target (held_after_edge d f held))) moved
    ∙ ap (λ v. standing_at e.target (held_after_edge e f v)) (same_held _ _ leads)
walk-more flow f (first ∷ hops) hop here there held value e leads is =
    go (edge_from flow here first) (λ here held. walk-more flow f hops hop here there held value e) leads
  where
    go : (o : Option Edge)
        → ((here : Target) (held : Bool) → walk flow f hops here held ≡ standing_at there value → edge_from flow there hop ≡ Some e → walk flow f (hops ++ hop ∷ []) here held ≡ standing_at e.target (held_after_edge e f value))
        → option_and_then (λ (d : Edge). walk flow f hops d.target (held_after_edge d f held)) o ≡ standing_at there value
        → option_and_then (λ (d : Edge). walk flow f (hops ++ hop ∷ []) d.target (held_after_edge d f held)) o ≡ standing_at e.target (held_after_edge e f value)
    go None later leads = absurd (let k : ⊥ = cc in k)
    go (Some d) later leads = later d.target (held_after_edge d f held) leads is

led-IsReached : (flow : Flow) → EdgesDiffer flow → (t : Target) → IsLedTo flow t → IsReached flow t
led-IsReached flow differ _ begins = ([], held_at_start (init (0 ∷ [])), refl)
led-IsReached flow differ _ (goes_on i p e led at member) = more (led-IsReached flow differ (node i) led)
  where
    more : IsReached flow (node i) → IsReached flow e.target
    more r =
        let taken = hop-taken flow differ i p e at (got-IsIn flow.points i p at) member in (
          r.0 ++ hop_by p e ∷ [],
          held_after_edge e (init (0 ∷ [])) r.1,
          walk-more flow (init (0 ∷ [])) r.0 (hop_by p e) flow.entry (node i) (held_at_start (init (0 ∷ []))) r.1 e r.2 taken,
        )

pub reached-IsLedTo : (flow : Flow) (t : Target) → IsReached flow t → IsLedTo flow t
reached-IsLedTo flow t r = walk-IsLedTo flow (init (0 ∷ [])) r.0 flow.entry t (held_at_start (init (0 ∷ []))) r.1 begins r.2

pub reached-led : (flow : Flow) → EdgesDiffer flow → (t : Target) → IsReached flow t ↔ IsLedTo flow t
reached-led flow differ t = (reached-IsLedTo flow t, led-IsReached flow differ t)
