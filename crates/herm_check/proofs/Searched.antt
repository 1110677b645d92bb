-- A search from the first point finds what control paths lead to, the nearest first.
use Rattle.std.proofs.Common.{◌≡◌, ◌⊎◌, inl, inr, ℕ, suc, zero, ◌+◌, ◌*◌, ◌<◌, ◌≤◌, List, [], ◌∷◌, ◌++◌, length, Bool, true, false, Option, Some, None, option_and_then, slice_get, cond, refl, sym, ◌∙◌, ap, ap₂, subst, arith}
use Rattle.std.proofs.lemmas.Option.{slice_get_within}
use Rattle.std.specs.declared.vec.Vec.{Vec}
use Rattle.std.specs.declared.alloc.Global.{Global}
use Rattle.herm_model.specs.Lists.{IsIn}
use Rattle.herm_model.specs.Paths.{Fact}
use Rattle.herm_model.specs.Targets.{Target, node}
use Rattle.herm_model.specs.ControlPaths.{Edge, Point, Flow, Hop, held_after_edge, held_at_start, walk, edge_from, IsControlPath, LacksBy, Holds}
use Rattle.herm_model.specs.laws.FlowLaws.{EdgesDiffer}
use Rattle.herm_model.proofs.FactTests.{got-IsIn}
use Rattle.herm_model.proofs.Reached.{hop_by, hop-taken, walk-more}
use Rattle.herm_model.proofs.Walks.{IsEdgeOf, edge_from-IsEdgeOf, same_here, same_held}
use Rattle.herm_check.specs.View.{hop_view}
use Rattle.herm_check.specs.declared.search.Link.{Link}
use Rattle.herm_check.specs.declared.search.Visit.{Visit}
use Rattle.herm_facts.specs.FactSets.{has}
use Rattle.herm_facts.specs.declared.fact_set.FactSet.{FactSet}
use Rattle.herm_check.specs.Searched.{Places, slot_of, IsOf, IsFound, IsLinked, IsLast, visits_of, IsSearch, HasVisits, AreFollowed, AreLeft, IsNearest}
use Rattle.herm_check.specs.Shortest.{IsShortest}

-- an element at a place of a list is one element
pub one-at : {X : Type 0} (o : Option X) (x y : X) → o ≡ Some x → o ≡ Some y → x ≡ y
one-at o x y g h = let e : Some x ≡ Some y = sym g ∙ h in cc

-- there is an element before the end
pub some-at : {X : Type 0} (xs : List X) (k : ℕ) → k < length xs → (x : X) × (slice_get xs k ≡ Some x)
some-at [] k h = absurd (omega arith)
some-at (x ∷ xs) zero h = (x, refl)
some-at (x ∷ xs) (suc k) h = some-at xs k (omega arith)

pub le_or : (m n : ℕ) → (m ≤ n) ⊎ (n < m)
le_or zero n = inl (omega arith)
le_or (suc m) zero = inr (omega arith)
le_or (suc m) (suc n) = by (le_or m n)
  where
    by : (m ≤ n) ⊎ (n < m) → (suc m ≤ suc n) ⊎ (suc n < suc m)
    by (inl h) = inl (omega arith)
    by (inr h) = inr (omega arith)

pub length-more : {X : Type 0} (xs : List X) (x : X) → length (xs ++ x ∷ []) ≡ suc (length xs)
length-more [] x = refl
length-more (y ∷ xs) x = ap suc (length-more xs x)

node-same : (m n : ℕ) → node m ≡ node n → m ≡ n
node-same m n e = cc

-- each link leads back
abbrev pub LeadBack : List Visit → Type 0
LeadBack vs = (k : ℕ) (v : Visit) (l : Link) → slice_get vs k ≡ Some v → v.last ≡ Some l → l.from < k

-- the hops by which visits lead from the beginning to the one at a place
pub data IsTrail (vs : List Visit) : ℕ → List Hop → Type 0 where
  first : (k : ℕ) (v : Visit) → slice_get vs k ≡ Some v → v.last ≡ None → IsTrail vs k []
  more : (k : ℕ) (v : Visit) (l : Link) (hops : List Hop) → slice_get vs k ≡ Some v → v.last ≡ Some l → IsTrail vs l.from hops → IsTrail vs k (hops ++ hop_view l.hop ∷ [])

-- how many of so many first visits are of the fact with a number
abbrev visits_before : ℕ → ℕ → List Visit → ℕ
visits_before zero j vs = 0
visits_before (suc k) j [] = 0
visits_before (suc k) j (v ∷ vs) = cond (has v.facts j) 1 0 + visits_before k j vs

all-before : (j : ℕ) (vs : List Visit) → visits_before (length vs) j vs ≡ visits_of j vs
all-before j [] = refl
all-before j (v ∷ vs) = ap (λ n. cond (has v.facts j) 1 0 + n) (all-before j vs)

one-of : (j : ℕ) (v : Visit) → IsOf j v → ◌≡◌ {A = ℕ} (cond (has v.facts j) 1 0) 1
one-of j v of = ap (λ b. cond b 1 0) of

-- the visit at a place is one more of its fact than those before it
more-before : (k m j : ℕ) (vs : List Visit) (u : Visit) → k < m → slice_get vs k ≡ Some u → IsOf j u → visits_before k j vs < visits_before m j vs
more-before k zero j vs u less is of = absurd (omega (arith, less))
more-before zero (suc m) j [] u less is of = absurd (let g : ⊥ = cc in g)
more-before (suc k) (suc m) j [] u less is of = absurd (let g : ⊥ = cc in g)
more-before zero (suc m) j (v ∷ vs) u less is of = let one = one-of j v (subst (IsOf j) (let e : u ≡ v = cc in e) of) in omega (arith, one)
more-before (suc k) (suc m) j (v ∷ vs) u less is of = let again = more-before k m j vs u (omega (arith, less)) is of in omega (arith, again)

module _ (flow : Flow) (f : Fact) (j : ℕ) (vs : List Visit) (seen : List FactSet) (search : IsSearch flow f j vs seen) where
  deep-by : (k : ℕ) (v : Visit) (o : Option Link) → IsLast flow f j vs k v o → ((i : ℕ) (u : Visit) → i < k → slice_get vs i ≡ Some u → IsOf j u → u.depth ≤ visits_before i j vs) → v.depth ≤ visits_before k j vs
  deep-by k v None last again = let e = last.2 in omega (arith, e)
  deep-by k v (Some l) last again =
      let d = again l.from last.visit last.before last.is last.of in
      let less = more-before l.from k j vs last.visit last.before last.is last.of in
      omega (arith, d, less, last.depth)

  -- a visit is no deeper than there are visits of its fact before it
  deep : (n k : ℕ) (v : Visit) → k ≤ n → slice_get vs k ≡ Some v → IsOf j v → v.depth ≤ visits_before k j vs
  deep zero k v h is of = deep-by k v v.last (search.linked k v is of) (λ i u less at its. absurd (omega (arith, less, h)))
  deep (suc n) k v h is of = deep-by k v v.last (search.linked k v is of) (λ i u less at its. deep n i u (omega (arith, less, h)) at its)

  pub depth-few : (k : ℕ) (v : Visit) → slice_get vs k ≡ Some v → IsOf j v → v.depth < 2 * length flow.points
  depth-few k v is of =
      let d = deep k k v (omega arith) is of in
      let less = more-before k (length vs) j vs v (slice_get_within vs k v is) is of in
      let all = all-before j vs in
      omega (arith, d, less, all, search.count)

  module _ (differ : EdgesDiffer flow) (entry : flow.entry ≡ node 0) where
    -- the hops to a visit are a control path as long as the visit is deep
    pub trail-leads : (k : ℕ) (hops : List Hop) → IsTrail vs k hops → (v : Visit) → slice_get vs k ≡ Some v → IsOf j v → IsControlPath flow f hops (node v.point) v.held × (length hops ≡ v.depth)
    trail-leads k _ (first _ u is none) v at of = by (one-at _ u v is at)
      where
        by : u ≡ v → IsControlPath flow f [] (node v.point) v.held × (length {A = Hop} [] ≡ v.depth)
        by same = go (subst (IsLast flow f j vs k v) (subst (λ x. x.last ≡ None) same none) (search.linked k v at of))
          where
            go : IsLast flow f j vs k v None → IsControlPath flow f [] (node v.point) v.held × (length {A = Hop} [] ≡ v.depth)
            go h = (ap₂ (λ t b. Some (record { here = t; held = b })) (entry ∙ ap node (sym h.0)) (sym h.1), sym h.2)
    trail-leads k _ (more _ u l hops is last before) v at of = by (one-at _ u v is at) (λ w at its. trail-leads l.from hops before w at its)
      where
        by : u ≡ v → ((w : Visit) → slice_get vs l.from ≡ Some w → IsOf j w → IsControlPath flow f hops (node w.point) w.held × (length hops ≡ w.depth))
            → IsControlPath flow f (hops ++ hop_view l.hop ∷ []) (node v.point) v.held × (length (hops ++ hop_view l.hop ∷ []) ≡ v.depth)
        by same again = go (subst (IsLast flow f j vs k v) (subst (λ x. x.last ≡ Some l) same last) (search.linked k v at of))
          where
            go : IsLinked flow f j vs k v l → IsControlPath flow f (hops ++ hop_view l.hop ∷ []) (node v.point) v.held × (length (hops ++ hop_view l.hop ∷ []) ≡ v.depth)
            go h =
                let path = again h.visit h.is h.of in
                let taken = hop-taken flow differ h.visit.point h.point h.edge h.point_is (got-IsIn flow.points h.visit.point h.point h.point_is) h.member in
                let leads = walk-more flow f hops (hop_by h.point h.edge) flow.entry (node h.visit.point) (held_at_start f) h.visit.held h.edge path.0 taken in (
                  subst (λ hop. IsControlPath flow f (hops ++ hop ∷ []) (node v.point) v.held) (sym h.hop)
                      (subst (λ b. IsControlPath flow f (hops ++ hop_by h.point h.edge ∷ []) (node v.point) b) (sym h.held)
                      (subst (λ t. IsControlPath flow f (hops ++ hop_by h.point h.edge ∷ []) t (held_after_edge h.edge f h.visit.held)) h.target leads)),
                  let e = length-more hops (hop_view l.hop) in omega (arith, e, path.1, h.depth),
                )

    pub nearest-shortest : (i k : ℕ) (hops : List Hop) → IsNearest flow f j i vs k → IsTrail vs k hops → IsShortest flow f i hops
    nearest-shortest i k hops near trail =
        let path = trail-leads k hops trail near.visit near.is near.of in
        record {
          lacks = subst (λ n. IsControlPath flow f hops (node n) false) near.point (subst (λ b. IsControlPath flow f hops (node near.visit.point) b) near.lost path.0);
          least = λ others lacks. let less = near.least others lacks in omega (arith, less, path.1);
          few = let less = depth-few k near.visit near.is near.of in omega (arith, less, path.1);
        }

  -- the edges from each visit that is not so deep were followed
  abbrev IsClosed : ℕ → Type 0
  IsClosed depth = (i : ℕ) (u : Visit) (p : Point) → u.depth < depth → slice_get vs i ≡ Some u → IsOf j u → slice_get flow.points u.point ≡ Some p → AreFollowed f j vs u p.edges

  -- control stands at a point that was visited
  abbrev Stands : Target → Bool → ℕ → Type 0
  Stands here held most = (t : ℕ) → here ≡ node t → IsFound j vs t held most

  module _ (depth : ℕ) (closed : IsClosed depth) where
    stands-behind : (here : Target) (held : Bool) (most : ℕ) (e : Edge) → Stands here held most → most < depth → IsEdgeOf flow here e → Stands e.target (held_after_edge e f held) (suc most)
    stands-behind here held most e stands less of t to =
        let now = stands of.at of.here-is in
        let next = closed now.at now.visit of.point (omega (arith, now.near, less)) now.is now.of (subst (λ n. slice_get flow.points n ≡ Some of.point) (sym now.same_point) of.point-is) e t of.edge to in
        record { at = next.at; visit = next.visit; is = next.is; of = next.of; same_point = next.same_point; same_held = next.same_held ∙ ap (held_after_edge e f) now.same_held; near = omega (arith, next.near, now.near) }

    stands-along : (hops : List Hop) (here there : Target) (held value : Bool) (most : ℕ) → Stands here held most → most + length hops ≤ depth → walk flow f hops here held ≡ Some (record { here = there; held = value }) → Stands there value (most + length hops)
    stands-along [] here there held value most stands less leads = λ t to.
        let found = stands t (same_here _ _ leads ∙ to) in
        record { at = found.at; visit = found.visit; is = found.is; of = found.of; same_point = found.same_point; same_held = found.same_held ∙ same_held _ _ leads; near = omega (arith, found.near) }
    stands-along (hop ∷ hops) here there held value most stands less leads =
        go (edge_from flow here hop) refl (λ here held stands leads. stands-along hops here there held value (suc most) stands (omega (arith, less)) leads) leads
      where
        further : ((t : ℕ) → there ≡ node t → IsFound j vs t value (suc most + length hops)) → Stands there value (most + suc (length hops))
        further h t to =
            let found = h t to in
            record { at = found.at; visit = found.visit; is = found.is; of = found.of; same_point = found.same_point; same_held = found.same_held; near = omega (arith, found.near) }

        go : (o : Option Edge) → edge_from flow here hop ≡ o
            → ((here : Target) (held : Bool) → Stands here held (suc most) → walk flow f hops here held ≡ Some (record { here = there; held = value }) → Stands there value (suc most + length hops))
            → option_and_then (λ (e : Edge). walk flow f hops e.target (held_after_edge e f held)) o ≡ Some (record { here = there; held = value }) → Stands there value (most + suc (length hops))
        go None is later leads = absurd (let k : ⊥ = cc in k)
        go (Some e) is later leads = further (later e.target (held_after_edge e f held) (stands-behind here held most e stands (omega (arith, less)) (edge_from-IsEdgeOf flow here hop e is)) leads)

    stands-first : flow.entry ≡ node 0 → Stands flow.entry (held_at_start f) 0
    stands-first entry t to = subst (λ n. IsFound j vs n (held_at_start f) 0) (node-same 0 t (sym entry ∙ to)) search.begins

    -- what a path of no more hops leads to was visited
    pub found-along : flow.entry ≡ node 0 → (hops : List Hop) (t : ℕ) (held : Bool) → length hops ≤ depth → IsControlPath flow f hops (node t) held → IsFound j vs t held (length hops)
    found-along entry hops t held less leads =
        let found = stands-along hops flow.entry (node t) (held_at_start f) held 0 (stands-first entry) (omega (arith, less)) leads t refl in
        record { at = found.at; visit = found.visit; is = found.is; of = found.of; same_point = found.same_point; same_held = found.same_held; near = omega (arith, found.near) }

  -- the visits before a place were left, and none of them is of the point with the fact not held
  module _ (entry : flow.entry ≡ node 0) (i n : ℕ) (left : AreLeft flow f j vs n) (missed : (k : ℕ) (u : Visit) → k < n → slice_get vs k ≡ Some u → IsOf j u → u.point ≡ i → u.held ≡ false → ⊥) where
    -- the visit at the place is one of the point with the fact not held: no such path is shorter
    pub least-found : ((k : ℕ) (u v : Visit) → slice_get vs n ≡ Some u → slice_get vs k ≡ Some v → n ≤ k → u.depth ≤ v.depth) → (v : Visit) → slice_get vs n ≡ Some v → (hops : List Hop) → LacksBy flow f i hops → v.depth ≤ length hops
    least-found rising v is hops lacks = by (le_or v.depth (length hops))
      where
        before : (k : ℕ) (u : Visit) → slice_get vs k ≡ Some u → u.depth < v.depth → k < n
        before k u at less = by (le_or n k)
          where
            by : (n ≤ k) ⊎ (k < n) → k < n
            by (inl h) = let rises = rising k v u is at h in absurd (omega (arith, rises, less))
            by (inr h) = h

        closed : IsClosed v.depth
        closed k u p less at of there = left k u p (before k u at less) at of there

        no-less : length hops < v.depth → ⊥
        no-less less =
            let found = found-along v.depth closed entry hops i false (omega (arith, less)) lacks in
            missed found.at found.visit (before found.at found.visit found.is (omega (arith, found.near, less))) found.is found.of found.same_point found.same_held

        by : (v.depth ≤ length hops) ⊎ (length hops < v.depth) → v.depth ≤ length hops
        by (inl h) = h
        by (inr h) = absurd (no-less h)

    -- every visit was left: the fact is held on each path
    pub all-hold : length vs ≤ n → Holds flow f i
    all-hold all hops held leads = by held leads
      where
        before : (k : ℕ) (u : Visit) → slice_get vs k ≡ Some u → k < n
        before k u at = omega (arith, slice_get_within vs k u at, all)

        by : (b : Bool) → IsControlPath flow f hops (node i) b → b ≡ true
        by true leads = refl
        by false leads =
            let found = found-along (length hops) (λ k u p less at of there. left k u p (before k u at) at of there) entry hops i false (omega arith) leads in
            absurd (missed found.at found.visit (before found.at found.visit found.is) found.is found.of found.same_point found.same_held)

-- The search has come to its end. Of the visits of a point with facts not held, the one that is of the fact is nearest, and where none is the fact is held on each path.
module _ (flow : Flow) (f : Fact) (j : ℕ) (vs : List Visit) (seen : List FactSet) (places : Places) (visits : HasVisits flow vs seen places) (search : IsSearch flow f j vs seen) (entry : flow.entry ≡ node 0) (left : AreLeft flow f j vs (length vs))
    (i : ℕ) (row : Vec ℕ Global) (here : slice_get places (slot_of i false) ≡ Some row) where
  pub lost-nearest : (k : ℕ) (v : Visit) → IsIn k row.items → slice_get vs k ≡ Some v → IsOf j v → IsNearest flow f j i vs k
  lost-nearest k v member is of =
      let h = visits.listed i false row k here member in
      let same : h.0 ≡ v = one-at (slice_get vs k) h.0 v h.1 is in
      let point : v.point ≡ i = subst (λ (w : Visit). w.point ≡ i) same h.2 in
      let lost : v.held ≡ false = subst (λ (w : Visit). w.held ≡ false) same h.3 in
      let within = slice_get_within vs k v is in
      record {
        visit = v;
        is = is;
        of = of;
        point = point;
        lost = lost;
        least = least-found flow f j vs seen search entry i k (λ l u p less at its there. left l u p (omega (arith, less, within)) at its there)
            (λ l u less at its there held. let e = search.once l k u v at is its of (there ∙ sym point) (held ∙ sym lost) in absurd (omega (arith, e, less))) (visits.rising k) v is;
      }

  pub lost-holds : ((k : ℕ) (v : Visit) → IsIn k row.items → slice_get vs k ≡ Some v → IsOf j v → ⊥) → Holds flow f i
  lost-holds none = all-hold flow f j vs seen search entry i (length vs) left (λ k u less at of point held. none k u (listed k u at point held) at of) (omega arith)
    where
      listed : (k : ℕ) (u : Visit) → slice_get vs k ≡ Some u → u.point ≡ i → u.held ≡ false → IsIn k row.items
      listed k u at point held =
          let h = visits.placed k u at in
          let there : slice_get places (slot_of i false) ≡ Some h.0 = subst (λ n. slice_get places (slot_of n false) ≡ Some h.0) point (subst (λ b. slice_get places (slot_of u.point b) ≡ Some h.0) held h.1) in
          subst (λ (r : Vec ℕ Global). IsIn k r.items) (one-at (slice_get places (slot_of i false)) h.0 row there here) h.2
