-- The hops that are read out of a search are those by which its visits lead.
use Rattle.std.proofs.Common.{◌≡◌, ℕ, suc, zero, ◌<◌, List, [], ◌∷◌, ◌++◌, length, cond, Bool, true, false, nat_lt, Option, Some, None, slice_get, option_and_then, refl, sym, ap, subst, arith}
use Rattle.std.proofs.lemmas.Bool.{lt-ltb, ltb-true}
use Rattle.std.proofs.lemmas.Option.{slice_get_within}
use Rattle.herm_model.specs.Lists.{list_of}
use Rattle.herm_model.specs.Paths.{Fact}
use Rattle.herm_model.specs.Targets.{node}
use Rattle.herm_model.specs.ControlPaths.{Flow, Hop}
use Rattle.herm_model.specs.laws.FlowLaws.{EdgesDiffer}
use Rattle.herm_check.specs.View.{hop_view}
use Rattle.herm_check.specs.declared.search.Link.{Link}
use Rattle.herm_check.specs.declared.search.Visit.{Visit}
use Rattle.herm_check.specs.Trails.{trail_by, trail}
use Rattle.herm_check.specs.declared.search.Search.{Search}
use Rattle.herm_check.specs.Searched.{IsNearest, IsSearched}
use Rattle.herm_check.specs.Shortest.{IsShortest}
use Rattle.herm_check.proofs.Searched.{LeadBack, IsTrail, first, more, some-at, nearest-shortest}

-- the hops by a link, those before it first
abbrev pub by_link : ℕ → List Visit → ℕ → Link → List Hop
by_link n vs k l = cond (nat_lt l.from k) (trail_by n vs l.from) [] ++ hop_view l.hop ∷ []

-- so many links are enough as are more than the place
pub trail-more : (vs : List Visit) (m n k : ℕ) → k < m → k < n → trail_by m vs k ≡ trail_by n vs k
trail-more vs zero n k h g = absurd (omega (arith, h))
trail-more vs (suc m) zero k h g = absurd (omega (arith, g))
trail-more vs (suc m) (suc n) k h g = by (λ j less. trail-more vs m n j (omega (arith, h, less)) (omega (arith, g, less))) (option_and_then (λ (v : Visit). v.last) (slice_get vs k))
  where
    guarded : ((j : ℕ) → j < k → trail_by m vs j ≡ trail_by n vs j) → (j : ℕ) (b : Bool) → nat_lt j k ≡ b → cond b (trail_by m vs j) [] ≡ cond b (trail_by n vs j) []
    guarded again j true e = again j (ltb-true j k e)
    guarded again j false e = refl

    by : ((j : ℕ) → j < k → trail_by m vs j ≡ trail_by n vs j) → (o : Option Link) → list_of (by_link m vs k) o ≡ list_of (by_link n vs k) o
    by again None = refl
    by again (Some l) = ap (λ hs. hs ++ hop_view l.hop ∷ []) (guarded again l.from (nat_lt l.from k) refl)

pub trail-is : (vs : List Visit) → LeadBack vs → (n k : ℕ) → k < n → k < length vs → IsTrail vs k (trail_by n vs k)
trail-is vs back zero k less within = absurd (omega (arith, less))
trail-is vs back (suc n) k less within =
    let o = some-at vs k within in
    subst (λ x. IsTrail vs k (list_of (by_link n vs k) x)) (sym (ap (option_and_then (λ (v : Visit). v.last)) o.1)) (by (λ j h. trail-is vs back n j (omega (arith, h, less)) (omega (arith, h, within))) o.0 o.1 o.0.last refl)
  where
    by : ((j : ℕ) → j < k → IsTrail vs j (trail_by n vs j)) → (v : Visit) → slice_get vs k ≡ Some v → (x : Option Link) → v.last ≡ x → IsTrail vs k (list_of (by_link n vs k) x)
    by again v is None last = first k v is last
    by again v is (Some l) last =
        let before = back k v l is last in
        subst (λ b. IsTrail vs k (cond b (trail_by n vs l.from) [] ++ hop_view l.hop ∷ [])) (sym (lt-ltb l.from k before)) (more k v l (trail_by n vs l.from) is last (again l.from before))

-- the hops before those of a link: those to where it comes from, where that is before it
abbrev pub front : List Visit → ℕ → Link → List Hop
front vs k l = cond (nat_lt l.from k) (trail_by k vs l.from) []

-- the trail to a place, of whose visit this is the link
abbrev pub trail_from : List Visit → ℕ → Option Link → List Hop
trail_from vs k o = list_of (by_link k vs k) o

pub front-is : (vs : List Visit) (k : ℕ) (l : Link) → front vs k l ≡ trail_from vs l.from (cond (nat_lt l.from k) (option_and_then (λ (v : Visit). v.last) (slice_get vs l.from)) None)
front-is vs k l = by (nat_lt l.from k) refl
  where
    by : (b : Bool) → nat_lt l.from k ≡ b → cond b (trail_by k vs l.from) [] ≡ trail_from vs l.from (cond b (option_and_then (λ (v : Visit). v.last) (slice_get vs l.from)) None)
    by true e = trail-more vs k (suc l.from) l.from (ltb-true l.from k e) (omega arith)
    by false e = refl

-- how many places are left that links can lead to
abbrev pub places_left : ℕ → Option Link → ℕ
places_left k None = 0
places_left k (Some l) = suc k

pub fewer-left : (k m : ℕ) (o : Option Link) → places_left m (cond (nat_lt m k) o None) < suc k
fewer-left k m o = by (nat_lt m k) refl o
  where
    by : (b : Bool) → nat_lt m k ≡ b → (o : Option Link) → places_left m (cond b o None) < suc k
    by true e None = omega arith
    by true e (Some l) = let less = ltb-true m k e in omega (arith, less)
    by false e o = omega arith

-- the trail to the nearest visit of a point with the fact not held is a shortest path
pub nearest-trail : (flow : Flow) → EdgesDiffer flow → flow.entry ≡ node 0 → (f : Fact) (j : ℕ) (s : Search) → IsSearched flow f j s → (i k : ℕ) → IsNearest flow f j i s.visits.items k → IsShortest flow f i (trail s.visits.items k)
nearest-trail flow differ entry f j s searched i k near =
    let vs = s.visits.items in
    nearest-shortest flow f j vs s.seen.items searched.search differ entry i k (trail vs k) near (trail-is vs searched.visits.back (suc k) k (omega arith) (slice_get_within vs k near.visit near.is))
