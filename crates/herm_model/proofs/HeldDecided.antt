-- At each point a fact is held on every control path, or there is one on which it is not held: found by paths through
-- ever more points.
use Rattle.std.proofs.Common.{◌≡◌, ◌↔◌, ◌⊎◌, inl, inr, ℕ, List, [], ◌∷◌, ◌++◌, map, find, Bool, true, false, cond, not, ◌&&◌, nat_eq, Option, Some, None, slice_get, option_and_then, IsTrue, refl, sym, ap, ap₂, subst, ◌∙◌, true≢false}
use Rattle.std.proofs.lemmas.Bool.{eq-eqb, eqb-true}
use Rattle.herm_model.specs.Lists.{IsIn, numbered}
use Rattle.herm_model.specs.Paths.{Fact}
use Rattle.herm_model.specs.Outcomes.{same_outcome}
use Rattle.herm_model.specs.Targets.{Target, node, end, end_by}
use Rattle.herm_model.specs.ControlPaths.{Edge, Point, Flow, Hop, Standing, held_after_edge, held_at_start, walk, edge_at, edge_from, Holds, Lacks}
use Rattle.herm_model.specs.MissingFacts.{Demand, Refusal, AreRefusals, none, missing, holds}
use Rattle.herm_model.specs.Labels.{Labels, AreExact}
use Rattle.herm_model.proofs.Lists.{not_true, and-both, both-and, in-append_left, in-append_right, in-map, found-in}
use Rattle.herm_model.proofs.Options.{none-not_some, some-injective}
use Rattle.herm_model.proofs.FactTests.{at-numbered}
use Rattle.herm_model.proofs.Walks.{edge_from-IsEdgeOf}
use Rattle.herm_model.proofs.Reached.{same_outcome-is, hop_by}

-- something, or its refutation
abbrev Decided : Type 0 → Type 0
Decided A = A ⊎ (A → ⊥)

-- some element of a list passes a test, or none does
some-passes : {X : Type 0} (test : X → Bool) (xs : List X) → Decided ((x : X) × IsIn x xs × IsTrue (test x))
some-passes test [] = inr (λ r. r.1)
some-passes {X} test (x ∷ xs) = by (test x) refl (some-passes test xs)
  where
    Passes : List X → Type 0
    Passes ys = (y : X) × IsIn y ys × IsTrue (test y)

    first : test x ≡ false → (Passes xs → ⊥) → (y : X) → IsIn y (x ∷ xs) → IsTrue (test y) → ⊥
    first e n y (inl same) h = true≢false (sym h ∙ ap test same ∙ e)
    first e n y (inr member) h = n (y, member, h)

    by : (b : Bool) → test x ≡ b → Decided (Passes xs) → Decided (Passes (x ∷ xs))
    by true e later = inl (x, inl refl, e)
    by false e (inl r) = inl (r.0, inr r.1, r.2)
    by false e (inr n) = inr (λ r. first e n r.0 r.1 r.2)

abbrev at_node : ℕ → Bool → Standing
at_node i held = record { here = node i; held = held }

same-held : (a b : Bool) → IsTrue (cond a b (not b)) → a ≡ b
same-held true true h = refl
same-held true false h = not_true h
same-held false true h = not_true h
same-held false false h = refl

-- whether a walk led to a point, with the fact held or not as is asked
abbrev is_standing : ℕ → Bool → Target → Bool → Bool
is_standing i held (node j) value = nat_eq j i && cond value held (not held)
is_standing i held end value = false
is_standing i held (end_by e) value = false

abbrev stands_at : ℕ → Bool → Option Standing → Bool
stands_at i held None = false
stands_at i held (Some s) = is_standing i held s.here s.held

stands-there : (i : ℕ) (held : Bool) (o : Option Standing) → IsTrue (stands_at i held o) → o ≡ Some (at_node i held)
stands-there i held None h = not_true h
stands-there i held (Some s) h = by s.here s.held h
  where
    by : (t : Target) (value : Bool) → IsTrue (is_standing i held t value) → Some (record { here = t; held = value }) ≡ Some (at_node i held)
    by (node j) value h = let both = and-both (nat_eq j i) _ h in ap₂ (λ j b. Some (at_node j b)) (eqb-true j i both.0) (same-held value held both.1)
    by end value h = not_true h
    by (end_by e) value h = not_true h

there-stands : (i : ℕ) (held : Bool) → IsTrue (stands_at i held (Some (at_node i held)))
there-stands i held = both-and (nat_eq i i) _ (eq-eqb i i refl) (self held)
  where
    self : (b : Bool) → IsTrue (cond b b (not b))
    self true = refl
    self false = refl

-- the hop that takes an edge is the one by the edge's own outcome
hop-is : (hop : Hop) (p : Point) (e : Edge) → edge_at hop (Some p) ≡ Some e → IsIn e p.edges × (hop ≡ hop_by p e)
hop-is hop p e h = by (nat_eq p.number hop.number) refl h
  where
    by : (b : Bool) → nat_eq p.number hop.number ≡ b → cond b (find (λ (d : Edge). same_outcome d.outcome hop.outcome) p.edges) None ≡ Some e → IsIn e p.edges × (hop ≡ hop_by p e)
    by true n k =
        let r = found-in (λ (d : Edge). same_outcome d.outcome hop.outcome) e p.edges k in
        let number : p.number ≡ hop.number = eqb-true p.number hop.number n in
        let outcome : e.outcome ≡ hop.outcome = same_outcome-is e.outcome hop.outcome r.1 in
        (r.0, sym (λ i. record { number = number i; outcome = outcome i }))
    by false n k = none-not_some k

module _ (flow : Flow) (f : Fact) where
  -- a point, with the fact held there or not
  abbrev Mark : Type 0
  Mark = ℕ × Bool

  abbrev WalksTo : List Hop → Target → Bool → Mark → Type 0
  WalksTo hops here held b = walk flow f hops here held ≡ Some (at_node b.0 b.1)

  walk-on : (hops more : List Hop) (here : Target) (held : Bool) (b c : Mark) → WalksTo hops here held b → WalksTo more (node b.0) b.1 c → WalksTo (hops ++ more) here held c
  walk-on [] more here held b c h k = subst (λ (s : Standing). walk flow f more s.here s.held ≡ Some (at_node c.0 c.1)) (sym (some-injective h)) k
  walk-on (hop ∷ hops) more here held b c h k = by (edge_from flow here hop) (λ t value. walk-on hops more t value b c) h
    where
      by : (o : Option Edge) → ((t : Target) (value : Bool) → WalksTo hops t value b → WalksTo more (node b.0) b.1 c → WalksTo (hops ++ more) t value c)
          → option_and_then (λ (e : Edge). walk flow f hops e.target (held_after_edge e f held)) o ≡ Some (at_node b.0 b.1)
          → option_and_then (λ (e : Edge). walk flow f (hops ++ more) e.target (held_after_edge e f held)) o ≡ Some (at_node c.0 c.1)
      by None again h = none-not_some h
      by (Some e) again h = again e.target (held_after_edge e f held) h k

  -- one hop
  abbrev Steps : Mark → Mark → Type 0
  Steps a b = (hop : Hop) × WalksTo (hop ∷ []) (node a.0) a.1 b

  steps-by : (a b : Mark) (o : Option Point) → slice_get flow.points a.0 ≡ o → Decided (Steps a b)
  steps-by a b None is = inr (λ s. none-not_some (ap (λ o. option_and_then (λ (e : Edge). walk flow f [] e.target (held_after_edge e f a.1)) (edge_at s.0 o)) (sym is) ∙ s.1))
  steps-by a b (Some p) is = by (some-passes leads p.edges)
    where
      leads : Edge → Bool
      leads e = stands_at b.0 b.1 (walk flow f (hop_by p e ∷ []) (node a.0) a.1)

      refuted : (((e : Edge) × IsIn e p.edges × IsTrue (leads e)) → ⊥) → (hop : Hop) → WalksTo (hop ∷ []) (node a.0) a.1 b → (o : Option Edge) → edge_at hop (Some p) ≡ o → option_and_then (λ (e : Edge). walk flow f [] e.target (held_after_edge e f a.1)) o ≡ Some (at_node b.0 b.1) → ⊥
      refuted n hop w None at h = none-not_some h
      refuted n hop w (Some e) at h =
          let r = hop-is hop p e at in
          n (e, r.0, ap (stands_at b.0 b.1) (subst (λ hop. WalksTo (hop ∷ []) (node a.0) a.1 b) r.1 w) ∙ there-stands b.0 b.1)

      by : Decided ((e : Edge) × IsIn e p.edges × IsTrue (leads e)) → Decided (Steps a b)
      by (inl r) = inl (hop_by p r.0, stands-there b.0 b.1 _ r.2)
      by (inr n) = inr (λ s. refuted n s.0 s.1 (edge_at s.0 (Some p)) refl (ap (λ o. option_and_then (λ (e : Edge). walk flow f [] e.target (held_after_edge e f a.1)) (edge_at s.0 o)) (sym is) ∙ s.1))

  -- a path of one hop or more that passes through these marks alone
  abbrev Goes : List Mark → Mark → Mark → Type 0
  Goes [] a b = Steps a b
  Goes (u ∷ us) a b = Goes us a b ⊎ (Goes us a u × Goes us u b)

  goes-or_not : (us : List Mark) (a b : Mark) → Decided (Goes us a b)
  goes-or_not [] a b = steps-by a b (slice_get flow.points a.0) refl
  goes-or_not (u ∷ us) a b = by (goes-or_not us a b) (goes-or_not us a u) (goes-or_not us u b)
    where
      by : Decided (Goes us a b) → Decided (Goes us a u) → Decided (Goes us u b) → Decided (Goes (u ∷ us) a b)
      by (inl p) y z = inl (inl p)
      by (inr n) (inl q) (inl r) = inl (inr (q, r))
      by (inr n) (inr m) z = inr (λ g. neither g)
        where
          neither : Goes (u ∷ us) a b → ⊥
          neither (inl p) = n p
          neither (inr q) = m q.0
      by (inr n) (inl q) (inr m) = inr (λ g. neither g)
        where
          neither : Goes (u ∷ us) a b → ⊥
          neither (inl p) = n p
          neither (inr r) = m r.1

  goes-walks : (us : List Mark) (a b : Mark) → Goes us a b → (hops : List Hop) × WalksTo hops (node a.0) a.1 b
  goes-walks [] a b s = (s.0 ∷ [], s.1)
  goes-walks (u ∷ us) a b (inl p) = goes-walks us a b p
  goes-walks (u ∷ us) a b (inr q) =
      let before = goes-walks us a u q.0 in
      let behind = goes-walks us u b q.1 in
      (before.0 ++ behind.0, walk-on before.0 behind.0 (node a.0) a.1 u b before.1 behind.1)

  step-goes : (us : List Mark) (a b : Mark) → Steps a b → Goes us a b
  step-goes [] a b s = s
  step-goes (u ∷ us) a b s = inl (step-goes us a b s)

  -- paths are joined at a mark that they may pass through
  joined : (us : List Mark) (x a b : Mark) → IsIn x us → Goes us a x → Goes us x b → Goes us a b
  joined [] x a b member p q = absurd member
  joined (u ∷ us) x a b (inl same) p q = inr (front (subst (Goes (u ∷ us) a) same p), back (subst (λ x. Goes (u ∷ us) x b) same q))
    where
      front : Goes (u ∷ us) a u → Goes us a u
      front (inl r) = r
      front (inr r) = r.0

      back : Goes (u ∷ us) u b → Goes us u b
      back (inl r) = r
      back (inr r) = r.1
  joined (u ∷ us) x a b (inr member) p q = by (λ a b. joined us x a b member) p q
    where
      by : ((a b : Mark) → Goes us a x → Goes us x b → Goes us a b) → Goes (u ∷ us) a x → Goes (u ∷ us) x b → Goes (u ∷ us) a b
      by again (inl p) (inl q) = inl (again a b p q)
      by again (inl p) (inr q) = inr (again a u p q.0, q.1)
      by again (inr p) (inl q) = inr (p.0, again u b p.1 q)
      by again (inr p) (inr q) = inr (p.0, q.1)

  -- each mark that a hop leaves
  abbrev marks : List Mark
  marks = map (λ (x : ℕ × Point). (x.0, true)) (numbered 0 flow.points) ++ map (λ (x : ℕ × Point). (x.0, false)) (numbered 0 flow.points)

  mark-listed : (i : ℕ) (p : Point) (held : Bool) → slice_get flow.points i ≡ Some p → IsIn (i, held) marks
  mark-listed i p true is = in-append_left _ (map (λ (x : ℕ × Point). (x.0, true)) (numbered 0 flow.points)) _ (in-map (λ (x : ℕ × Point). (x.0, true)) (i, p) (numbered 0 flow.points) (at-numbered flow.points i p is))
  mark-listed i p false is = in-append_right _ (map (λ (x : ℕ × Point). (x.0, true)) (numbered 0 flow.points)) _ (in-map (λ (x : ℕ × Point). (x.0, false)) (i, p) (numbered 0 flow.points) (at-numbered flow.points i p is))

  -- a walk of one hop or more is such a path
  walk-goes : (hops : List Hop) (hop : Hop) (i : ℕ) (held : Bool) (b : Mark) → WalksTo (hop ∷ hops) (node i) held b → Goes marks (i, held) b
  walk-goes [] hop i held b w = step-goes marks (i, held) b (hop, w)
  walk-goes (next ∷ hops) hop i held b w = by (edge_from flow (node i) hop) refl (λ j value. walk-goes hops next j value b) w
    where
      Next : Type 0
      Next = (j : ℕ) (value : Bool) → WalksTo (next ∷ hops) (node j) value b → Goes marks (j, value) b

      onward : (t : Target) (value : Bool) (o : Option Edge) → edge_from flow t next ≡ o → Next → ((j : ℕ) → t ≡ node j → Steps (i, held) (j, value)) → WalksTo (next ∷ hops) t value b → Goes marks (i, held) b
      onward t value None at again step w = none-not_some (ap (option_and_then (λ (e : Edge). walk flow f hops e.target (held_after_edge e f value))) (sym at) ∙ w)
      onward t value (Some e) at again step w =
          let of = edge_from-IsEdgeOf flow t next e at in
          joined marks (of.at, value) (i, held) b (mark-listed of.at of.point value of.point-is)
          (step-goes marks (i, held) (of.at, value) (step of.at of.here-is))
          (again of.at value (subst (λ t. WalksTo (next ∷ hops) t value b) of.here-is w))

      by : (o : Option Edge) → edge_from flow (node i) hop ≡ o → Next → option_and_then (λ (e : Edge). walk flow f (next ∷ hops) e.target (held_after_edge e f held)) o ≡ Some (at_node b.0 b.1) → Goes marks (i, held) b
      by None at again w = none-not_some w
      by (Some e) at again w = onward e.target (held_after_edge e f held) (edge_from flow e.target next) refl again step w
        where
          step : (j : ℕ) → e.target ≡ node j → Steps (i, held) (j, held_after_edge e f held)
          step j here = (hop, ap (option_and_then (λ (e : Edge). walk flow f [] e.target (held_after_edge e f held))) at ∙ ap (λ t. Some (record { here = t; held = held_after_edge e f held })) here)

  -- some walk leads from a target to a mark, or none does
  walks-or_not : (t : Target) (held : Bool) (b : Mark) → Decided ((hops : List Hop) × WalksTo hops t held b)
  walks-or_not end held b = inr (λ r. nowhere r.0 r.1)
    where
      nowhere : (hops : List Hop) → WalksTo hops end held b → ⊥
      nowhere [] w = true≢false (sym (there-stands b.0 b.1) ∙ ap (stands_at b.0 b.1) (sym w))
      nowhere (hop ∷ hops) w = none-not_some w
  walks-or_not (end_by e) held b = inr (λ r. nowhere r.0 r.1)
    where
      nowhere : (hops : List Hop) → WalksTo hops (end_by e) held b → ⊥
      nowhere [] w = true≢false (sym (there-stands b.0 b.1) ∙ ap (stands_at b.0 b.1) (sym w))
      nowhere (hop ∷ hops) w = none-not_some w
  walks-or_not (node i) held b = by (stands_at b.0 b.1 (Some (at_node i held))) refl (goes-or_not marks (i, held) b)
    where
      neither : stands_at b.0 b.1 (Some (at_node i held)) ≡ false → (Goes marks (i, held) b → ⊥) → (hops : List Hop) → WalksTo hops (node i) held b → ⊥
      neither e n [] w = true≢false (sym (ap (stands_at b.0 b.1) w ∙ there-stands b.0 b.1) ∙ e)
      neither e n (hop ∷ hops) w = n (walk-goes hops hop i held b w)

      by : (h : Bool) → stands_at b.0 b.1 (Some (at_node i held)) ≡ h → Decided (Goes marks (i, held) b) → Decided ((hops : List Hop) × WalksTo hops (node i) held b)
      by true e d = inl ([], stands-there b.0 b.1 (Some (at_node i held)) e)
      by false e (inl g) = inl (goes-walks marks (i, held) b g)
      by false e (inr n) = inr (λ r. neither e n r.0 r.1)

pub holds-or_lacks : (flow : Flow) (f : Fact) (i : ℕ) → Holds flow f i ⊎ Lacks flow f i
holds-or_lacks flow f i = by (walks-or_not flow f flow.entry (held_at_start f) (i, false))
  where
    held-there : (Lacks flow f i → ⊥) → (hops : List Hop) (held : Bool) → walk flow f hops flow.entry (held_at_start f) ≡ Some (at_node i held) → held ≡ true
    held-there n hops true w = refl
    held-there n hops false w = absurd (n (hops, w))

    by : Decided (Lacks flow f i) → Holds flow f i ⊎ Lacks flow f i
    by (inl l) = inr l
    by (inr n) = inl (λ hops held w. held-there n hops held w)

-- labels as decided
abbrev is_left : {A B : Type 0} → A ⊎ B → Bool
is_left (inl a) = true
is_left (inr b) = false

pub exact-labels : (flow : Flow) → (labels : Labels) × AreExact flow labels
exact-labels flow = ((λ i f. is_left (holds-or_lacks flow f i)), λ i f reached. by i f (holds-or_lacks flow f i))
  where
    by : (i : ℕ) (f : Fact) (s : Holds flow f i ⊎ Lacks flow f i) → (is_left s ≡ true) ↔ Holds flow f i
    by i f (inl h) = (λ e. h, λ g. refl)
    by i f (inr l) = (λ e. absurd (true≢false (sym e)), λ h. absurd (true≢false (sym (h l.0 false l.1))))

pub refusals-exist : (flow : Flow) (ds : List Demand) → (refusals : List Refusal) × AreRefusals flow ds refusals
refusals-exist flow [] = ([], none)
refusals-exist flow (d ∷ ds) = by (holds-or_lacks flow d.fact d.at) (refusals-exist flow ds)
  where
    by : Holds flow d.fact d.at ⊎ Lacks flow d.fact d.at → (refusals : List Refusal) × AreRefusals flow ds refusals → (refusals : List Refusal) × AreRefusals flow (d ∷ ds) refusals
    by (inl h) r = (r.0, holds d ds r.0 h r.1)
    by (inr l) r = (record { number = d.number; fact = d.fact; path = l.0 } ∷ r.0, missing d ds l.0 r.0 l.1 r.1)
