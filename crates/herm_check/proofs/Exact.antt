-- Labels of which no point is still to be left are exact.
use Rattle.std.proofs.Common.{◌≡◌, ◌↔◌, ℕ, suc, zero, ◌<◌, List, [], ◌∷◌, length, Bool, true, false, Option, Some, None, option_and_then, refl, sym, subst, arith}
use Rattle.herm_model.specs.Paths.{Fact, init}
use Rattle.herm_model.specs.Targets.{Target, node}
use Rattle.herm_model.specs.ControlPaths.{Edge, Flow, Hop, held_after_edge, held_at_start, walk, edge_from, IsReached, Holds}
use Rattle.herm_model.specs.laws.FlowLaws.{first_of, IsThere}
use Rattle.herm_model.proofs.FactTests.{got-IsIn}
use Rattle.herm_model.proofs.Walks.{IsEdgeOf, edge_from-IsEdgeOf, same_here, same_held}
use Rattle.herm_facts.specs.declared.fact_numbers.FactNumbers.{FactNumbers}
use Rattle.herm_check.specs.declared.label.Label.{Label}
use Rattle.herm_check.specs.Labelled.{is_reached, holds_at, AreDone, LeadThere}
use Rattle.herm_check.proofs.Paths.{held_more}

pub first-there : (n i : ℕ) → first_of n ≡ node i → i < n
first-there zero i e = absurd (let k : ⊥ = cc in k)
first-there (suc n) i e = let k : 0 ≡ i = cc in omega arith

-- control stands at a point that is reached, where what the label has is held
abbrev Stands : FactNumbers → List Label → Fact → Target → Bool → Type 0
Stands ns ls f here held = (i : ℕ) → here ≡ node i → (i < length ls) × (is_reached ls i ≡ true) × (holds_at ns ls i f ≡ true → held ≡ true)

module _ (ns : FactNumbers) (flow : Flow) (ls : List Label) (done : AreDone ns flow ls) (there : LeadThere flow) (begins : (i : ℕ) → flow.entry ≡ node i → i < length flow.points) where
  stands-behind : (f : Fact) (here : Target) (held : Bool) (e : Edge) → Stands ns ls f here held → IsEdgeOf flow here e → Stands ns ls f e.target (held_after_edge e f held)
  stands-behind f here held e stands of i to =
      let now = stands of.at of.here-is in
      let inside : i < length ls = subst (λ n. i < n) (sym done.labels.are_true.many) (subst (IsThere (length flow.points)) to (there of.point e (got-IsIn flow.points of.at of.point of.point-is) of.edge)) in
      let both = done.labels.settled of.at of.point of.point-is now.1 (done.done of.at now.1) e of.edge i to inside in
      (inside, both.0, λ g. held_more e f (holds_at ns ls of.at f) held now.2 (both.1 f g))

  stands-along : (f : Fact) (hops : List Hop) (here there : Target) (held value : Bool) → Stands ns ls f here held → walk flow f hops here held ≡ Some (record { here = there; held = value }) → Stands ns ls f there value
  stands-along f [] here there held value stands leads = subst (λ b. Stands ns ls f there b) (same_held _ _ leads) (subst (λ t. Stands ns ls f t held) (same_here _ _ leads) stands)
  stands-along f (hop ∷ hops) here there held value stands leads =
      go (edge_from flow here hop) refl (λ here held. stands-along f hops here there held value) leads
    where
      go : (o : Option Edge) → edge_from flow here hop ≡ o
          → ((here : Target) (held : Bool) → Stands ns ls f here held → walk flow f hops here held ≡ Some (record { here = there; held = value }) → Stands ns ls f there value)
          → option_and_then (λ (e : Edge). walk flow f hops e.target (held_after_edge e f held)) o ≡ Some (record { here = there; held = value }) → Stands ns ls f there value
      go None is later leads = absurd (let k : ⊥ = cc in k)
      go (Some e) is later leads = later e.target (held_after_edge e f held) (stands-behind f here held e stands (edge_from-IsEdgeOf flow here hop e is)) leads

  stands-first : (f : Fact) → Stands ns ls f flow.entry (held_at_start f)
  stands-first f i to =
      let inside : i < length ls = subst (λ n. i < n) (sym done.labels.are_true.many) (begins i to) in
      let both = done.labels.are_true.begins i to inside in
      (inside, both.0, both.1 f)

  pub reached-found : (i : ℕ) → IsReached flow (node i) → is_reached ls i ≡ true
  reached-found i r = (stands-along (init (0 ∷ [])) r.0 flow.entry (node i) (held_at_start (init (0 ∷ []))) r.1 (stands-first (init (0 ∷ []))) r.2 i refl).1

  pub held-Holds : (i : ℕ) (f : Fact) → holds_at ns ls i f ≡ true → Holds flow f i
  held-Holds i f h hops held leads = (stands-along f hops flow.entry (node i) (held_at_start f) held (stands-first f) leads i refl).2 h

  pub exactly : (i : ℕ) (f : Fact) → IsReached flow (node i) → (holds_at ns ls i f ≡ true) ↔ Holds flow f i
  exactly i f r = (held-Holds i f, λ h. by h (holds_at ns ls i f) refl)
    where
      by : Holds flow f i → (b : Bool) → holds_at ns ls i f ≡ b → b ≡ true
      by h true e = refl
      by h false e = let l = done.labels.are_true.lacking i f (reached-found i r) e in h l.0 false l.1
