-- A point is left along one edge more.
use Rattle.std.proofs.Common.{◌≡◌, ◌≢◌, ◌⊎◌, inl, inr, ℕ, ◌≤◌, List, [], ◌∷◌, ◌++◌, Bool, true, false, cond, ◌&&◌, Some, slice_get, slice_set, refl, sym, ◌∙◌, ap, subst, arith, true≢false, length-set}
use Rattle.herm_model.specs.Lists.{IsIn}
use Rattle.herm_model.specs.Paths.{Fact}
use Rattle.herm_model.specs.Targets.{node}
use Rattle.herm_model.specs.ControlPaths.{Edge, Point, Flow, held_after_edge, held_at_start, IsReached, Lacks}
use Rattle.herm_model.specs.laws.FlowLaws.{EdgesDiffer}
use Rattle.herm_model.proofs.Lists.{in-append_cases}
use Rattle.herm_model.proofs.FactTests.{got-IsIn}
use Rattle.herm_facts.specs.declared.fact_numbers.FactNumbers.{FactNumbers}
use Rattle.herm_facts.specs.FactNumbers.{number_of}
use Rattle.herm_check.specs.declared.label.Label.{Label}
use Rattle.herm_check.specs.Numberings.{in_set, AreOfFacts}
use Rattle.herm_check.specs.Labelled.{is_reached, is_pending, holds_at, Goes, Carries, IsSettled, AreTrue, AreLabels, IsLeft}
use Rattle.herm_check.proofs.Paths.{edge-reached, edge-lacks}
use Rattle.herm_check.specs.Followed.{IsJoined, IsFollowed, ends, joins}
use Rattle.herm_check.specs.Weights.{weight}
use Rattle.herm_check.proofs.Joined.{set-each, set-weight, same_or_not, reached-here, pending-here, holds-here, reached-before, pending-before, holds-before, reached-elsewhere, pending-elsewhere, holds-elsewhere, joined-after, goes-kept, goes-new}

module _ (ns : FactNumbers) (flow : Flow) (differ : EdgesDiffer flow) (i : ℕ) (p : Point) (e : Edge) (is : slice_get flow.points i ≡ Some p) (member : IsIn e p.edges)
    (before : Fact → Bool) (leaves : IsReached flow (node i)) (lacks : (f : Fact) → before f ≡ false → Lacks flow f i)
    (ls : List Label) (t : ℕ) (l new : Label) (after : Fact → Bool) (to : e.target ≡ node t) (behind : (f : Fact) → after f ≡ held_after_edge e f (before f)) (joined : IsJoined ns ls t l new after) where
  after-lacks : (f : Fact) → after f ≡ false → Lacks flow f t
  after-lacks f h = edge-lacks flow differ i p e is member f t (before f) to leaves (lacks f) (sym (behind f) ∙ h)

  new-lacks : AreTrue ns flow ls → (f : Fact) → in_set ns new.held f ≡ false → Lacks flow f t
  new-lacks h f k = by l.reached refl (sym (joined.facts f) ∙ k)
    where
      first : (a b : Bool) → (a && b) ≡ false → (a ≡ false) ⊎ (b ≡ false)
      first true b e = inr e
      first false b e = inl e

      either : l.reached ≡ true → (in_set ns l.held f ≡ false) ⊎ (after f ≡ false) → Lacks flow f t
      either r (inl gone) = h.lacking t f (reached-before ns ls t l new after joined ∙ r) (holds-before ns ls t l new after joined f ∙ gone)
      either r (inr gone) = after-lacks f gone

      by : (r : Bool) → l.reached ≡ r → cond r (in_set ns l.held f && after f) (after f) ≡ false → Lacks flow f t
      by true r m = either r (first (in_set ns l.held f) (after f) m)
      by false r m = after-lacks f m

  kept-true : AreTrue ns flow ls → AreTrue ns flow (slice_set ls t new)
  kept-true h = record {
    many = length-set ls t new ∙ h.many;
    reached = λ j k. reached j k (same_or_not t j);
    bare = λ j f k. bare j f k (same_or_not t j);
    lacking = λ j f k m. lacking j f k m (same_or_not t j);
    known = set-each (λ (k : Label). AreOfFacts ns k.held) ls t new joined.known h.known;
    begins = goes-kept ns ls t l new after joined flow.entry held_at_start h.begins;
  }
    where
      reached : (j : ℕ) → is_reached (slice_set ls t new) j ≡ true → (t ≡ j) ⊎ (t ≢ j) → IsReached flow (node j)
      reached j k (inl q) = subst (λ n. IsReached flow (node n)) q (subst (IsReached flow) to (edge-reached flow differ i p e is member leaves))
      reached j k (inr d) = h.reached j (sym (reached-elsewhere ns ls t l new after joined j d) ∙ k)

      bare : (j : ℕ) (f : Fact) → is_reached (slice_set ls t new) j ≡ false → (t ≡ j) ⊎ (t ≢ j) → holds_at ns (slice_set ls t new) j f ≡ false
      bare j f k (inl q) = absurd (true≢false (sym (reached-here ns ls t l new after joined) ∙ subst (λ n. is_reached (slice_set ls t new) n ≡ false) (sym q) k))
      bare j f k (inr d) = holds-elsewhere ns ls t l new after joined j f d ∙ h.bare j f (sym (reached-elsewhere ns ls t l new after joined j d) ∙ k)

      lacking : (j : ℕ) (f : Fact) → is_reached (slice_set ls t new) j ≡ true → holds_at ns (slice_set ls t new) j f ≡ false → (t ≡ j) ⊎ (t ≢ j) → Lacks flow f j
      lacking j f k m (inl q) = subst (Lacks flow f) q (new-lacks h f (sym (holds-here ns ls t l new after joined f) ∙ subst (λ n. holds_at ns (slice_set ls t new) n f ≡ false) (sym q) m))
      lacking j f k m (inr d) = h.lacking j f (sym (reached-elsewhere ns ls t l new after joined j d) ∙ k) (sym (holds-elsewhere ns ls t l new after joined j f d) ∙ m)

  more : (d : Edge) (S T : Fact → Bool) → ((f : Fact) → T f ≡ S f) → Carries ns (slice_set ls t new) d S → Carries ns (slice_set ls t new) d T
  more d S T same g k there within = let both = g k there within in (both.0, λ f held. ap (held_after_edge d f) (same f) ∙ both.1 f held)

  -- a point that is not to be left again was not before, and its label has what it had
  unmoved : (j : ℕ) → is_pending (slice_set ls t new) j ≡ false → (is_pending ls j ≡ false) × ((f : Fact) → holds_at ns (slice_set ls t new) j f ≡ holds_at ns ls j f)
  unmoved j n = by (same_or_not t j)
    where
      by : (t ≡ j) ⊎ (t ≢ j) → (is_pending ls j ≡ false) × ((f : Fact) → holds_at ns (slice_set ls t new) j f ≡ holds_at ns ls j f)
      by (inl e) =
          let still = joined.still (sym (pending-here ns ls t l new after joined) ∙ subst (λ k. is_pending (slice_set ls t new) k ≡ false) (sym e) n) in (
            subst (λ k. is_pending ls k ≡ false) e (pending-before ns ls t l new after joined ∙ still.1),
            λ f. subst (λ k. holds_at ns (slice_set ls t new) k f ≡ holds_at ns ls k f) e (holds-here ns ls t l new after joined f ∙ (still.2 f ∙ sym (holds-before ns ls t l new after joined f))),
          )
      by (inr e) = (sym (pending-elsewhere ns ls t l new after joined j e) ∙ n, λ f. holds-elsewhere ns ls t l new after joined j f e)

  -- and so it was reached
  reached-still : (j : ℕ) → is_pending (slice_set ls t new) j ≡ false → is_reached (slice_set ls t new) j ≡ true → is_reached ls j ≡ true
  reached-still j n r = by (same_or_not t j)
    where
      by : (t ≡ j) ⊎ (t ≢ j) → is_reached ls j ≡ true
      by (inl e) = subst (λ k. is_reached ls k ≡ true) e (reached-before ns ls t l new after joined ∙ (joined.still (sym (pending-here ns ls t l new after joined) ∙ subst (λ k. is_pending (slice_set ls t new) k ≡ false) (sym e) n)).0)
      by (inr e) = sym (reached-elsewhere ns ls t l new after joined j e) ∙ r

  kept-settled : (j : ℕ) → IsSettled ns flow ls j → IsSettled ns flow (slice_set ls t new) j
  kept-settled j h q at r n d m =
      let still = unmoved j n in
      more d (holds_at ns ls j) (holds_at ns (slice_set ls t new) j) still.1
      (goes-kept ns ls t l new after joined d.target (λ f. held_after_edge d f (holds_at ns ls j f)) (h q at (reached-still j n r) still.0 d m))

  pub left-more : ((f : Fact) → before f ≡ holds_at ns ls i f) → (done : List Edge) → IsLeft ns flow i done ls → IsLeft ns flow i (done ++ e ∷ []) (slice_set ls t new)
  left-more same done h = record {
    are_true = kept-true h.are_true;
    reached = reached (same_or_not t i);
    settled = λ j d. kept-settled j (h.settled j d);
    carried = λ d m. carried d (in-append_cases d done (e ∷ []) m);
  }
    where
      reached : (t ≡ i) ⊎ (t ≢ i) → is_reached (slice_set ls t new) i ≡ true
      reached (inl q) = subst (λ k. is_reached (slice_set ls t new) k ≡ true) q (reached-here ns ls t l new after joined)
      reached (inr d) = reached-elsewhere ns ls t l new after joined i d ∙ h.reached

      carried : (d : Edge) → IsIn d done ⊎ IsIn d (e ∷ []) → is_pending (slice_set ls t new) i ≡ false → Carries ns (slice_set ls t new) d (holds_at ns (slice_set ls t new) i)
      carried d (inl m) n =
          let still = unmoved i n in
          more d (holds_at ns ls i) (holds_at ns (slice_set ls t new) i) still.1 (goes-kept ns ls t l new after joined d.target (λ f. held_after_edge d f (holds_at ns ls i f)) (h.carried d m still.0))
      carried d (inr (inl is)) n = subst (λ d. Carries ns (slice_set ls t new) d (holds_at ns (slice_set ls t new) i)) (sym is) (more e before (holds_at ns (slice_set ls t new) i) (λ f. (unmoved i n).1 f ∙ sym (same f)) new-carried)
        where
          new-carried : Carries ns (slice_set ls t new) e before
          new-carried k there within = let both = goes-new ns ls t l new after joined e.target to k there within in (both.0, λ f held. sym (behind f) ∙ both.1 f held)
      carried d (inr (inr none)) n = absurd none

-- an edge to an end carries nothing
pub left-end : (ns : FactNumbers) (flow : Flow) (i : ℕ) (e : Edge) (ls : List Label) (done : List Edge) → ((k : ℕ) → e.target ≡ node k → ⊥) → IsLeft ns flow i done ls → IsLeft ns flow i (done ++ e ∷ []) ls
left-end ns flow i e ls done none h = record { are_true = h.are_true; reached = h.reached; settled = h.settled; carried = λ d m. by d (in-append_cases d done (e ∷ []) m) }
  where
    by : (d : Edge) → IsIn d done ⊎ IsIn d (e ∷ []) → is_pending ls i ≡ false → Carries ns ls d (holds_at ns ls i)
    by d (inl m) n = h.carried d m n
    by d (inr (inl same)) n = λ k to within. absurd (none k (subst (λ (x : Edge). x.target ≡ node k) same to))
    by d (inr (inr m)) n = absurd m

-- when all edges of a point were followed, its label is settled
pub all-left : (ns : FactNumbers) (flow : Flow) (i : ℕ) (p : Point) (ls : List Label) → slice_get flow.points i ≡ Some p → IsLeft ns flow i p.edges ls → AreLabels ns flow ls
all-left ns flow i p ls is h = record { are_true = h.are_true; settled = λ j. by j (same_or_not i j) }
  where
    here : IsSettled ns flow ls i
    here q at r n d m =
        let same : p ≡ q = cc in
        h.carried d (subst (λ (x : Point). IsIn d x.edges) (sym same) m) n

    by : (j : ℕ) → (i ≡ j) ⊎ (i ≢ j) → IsSettled ns flow ls j
    by j (inl e) = subst (IsSettled ns flow ls) e here
    by j (inr d) = h.settled j d

-- what follows from one edge more, wherever it leads
pub left-followed : (ns : FactNumbers) (flow : Flow) (differ : EdgesDiffer flow) (i : ℕ) (p : Point) (e : Edge) → slice_get flow.points i ≡ Some p → IsIn e p.edges
    → (ls after : List Label) → IsFollowed ns e (holds_at ns ls i) ls after → (done : List Edge) → IsLeft ns flow i done ls → IsLeft ns flow i (done ++ e ∷ []) after
left-followed ns flow differ i p e is member ls _ (ends _ none) done h = left-end ns flow i e ls done none h
left-followed ns flow differ i p e is member ls _ (joins _ t l new after to behind joined) done h =
    left-more ns flow differ i p e is member (holds_at ns ls i) (h.are_true.reached i h.reached) (λ f. h.are_true.lacking i f h.reached) ls t l new after to behind joined (λ f. refl) done h

pub followed-weight : (ns : FactNumbers) (all : List Fact) (e : Edge) (before : Fact → Bool) (ls after : List Label) → IsFollowed ns e before ls after → ((f : Fact) (n : ℕ) → number_of ns f ≡ Some n → IsIn f all) → weight ns all after ≤ weight ns all ls
followed-weight ns all e before ls _ (ends _ none) only = omega arith
followed-weight ns all e before ls _ (joins _ t l new after to behind joined) only = set-weight ns all ls t l new joined.old (joined.less all only)
