-- A search as it begins: the first point is visited with each fact held or not.
use Rattle.std.proofs.Common.{◌≡◌, ℕ, suc, ◌*◌, ◌<◌, List, [], ◌∷◌, length, Bool, true, false, cond, not, ◌&&◌, true≢false, nat_lt, Some, None, slice_get, refl, sym, ◌∙◌, ap, ap₂, subst, arith}
use Rattle.std.proofs.lemmas.Bool.{lt-ltb}
use Rattle.std.proofs.lemmas.Option.{slice_get_within}
use Rattle.herm_model.specs.Lists.{IsIn, total}
use Rattle.herm_model.specs.Paths.{Fact}
use Rattle.herm_model.specs.ControlPaths.{Flow, held_at_start}
use Rattle.herm_facts.specs.FactSets.{has}
use Rattle.herm_facts.specs.declared.fact_set.FactSet.{FactSet}
use Rattle.herm_check.specs.declared.search.Visit.{Visit}
use Rattle.herm_check.specs.declared.search.Search.{Search}
use Rattle.herm_check.specs.Searched.{Places, IsFound, IsLast, sets_without, HasVisits, IsVisited, IsUnvisited, IsSearching}
use Rattle.herm_check.proofs.FactSets.{unseen-all}
use Rattle.herm_check.proofs.Following.{none-some, both-second, AreWithin, AreVisitsOf, to-search, found-kept, visit-kept, visit-within, visits-visited, of-visited, found-visited}

-- there is nothing at a place of no list
nothing : {X : Type 0} (xs : List X) (k : ℕ) (x : X) → xs ≡ [] → slice_get xs k ≡ Some x → ⊥
nothing xs k x none at = none-some x (subst (λ ys. slice_get ys k ≡ Some x) none at)

without-all : (j : ℕ) (sets : List FactSet) → ((i : ℕ) (s : FactSet) → slice_get sets i ≡ Some s → has s j ≡ false) → sets_without j sets ≡ length sets
without-all j [] none = refl
without-all j (s ∷ sets) none =
    let here : ◌≡◌ {A = ℕ} (cond (has s j) 0 1) 1 = ap (λ (b : Bool). cond {A = ℕ} b 0 1) (none 0 s refl) in
    let rest = without-all j sets (λ i t at. none (suc i) t at) in
    omega (arith, here, rest)

-- before the first visit
module _ (flow : Flow) (count : ℕ) (s : Search) (h : IsUnvisited count s) (size : count ≡ 2 * length flow.points) where
  pub no-visits : HasVisits flow s.visits.items s.seen.items s.places.items
  no-visits = record {
    there = λ k v at. absurd (nothing s.visits.items k v h.visits at);
    rising = λ j k u v at to less. absurd (nothing s.visits.items j u h.visits at);
    back = λ k v l at last. absurd (nothing s.visits.items k v h.visits at);
    listed = λ t held row k at member. absurd (subst (IsIn k) (h.places _ row at) member);
    placed = λ k v at. absurd (nothing s.visits.items k v h.visits at);
    many = h.many ∙ size;
    rows = h.rows ∙ size;
    count = let none = ap length h.visits in let all = unseen-all s.seen.items (λ i j t at. h.seen i j t at) in omega (arith, none, all, h.many, size);
    deep = λ k v at. absurd (nothing s.visits.items k v h.visits at);
  }

  pub no-visits-of : (f : Fact) (j : ℕ) → AreVisitsOf flow f j s.visits.items s.seen.items
  no-visits-of f j = record {
    linked = λ k v at of. absurd (nothing s.visits.items k v h.visits at);
    visited = λ t held x at of. absurd (true≢false (sym of ∙ h.seen _ j x at));
    seen_at = λ k v at of. absurd (nothing s.visits.items k v h.visits at);
    once = λ k l u v at to of of_other point held. absurd (nothing s.visits.items k u h.visits at);
    count =
        let none = ap (λ vs. total (λ (v : Visit). cond {A = ℕ} (has v.facts j) 1 0) vs) h.visits in
        let all = without-all j s.seen.items (λ i t at. h.seen i j t at) in
        omega (arith, none, all, h.many, size);
  }

  none-within : AreWithin s.visits.items 0
  none-within i u at = absurd (nothing s.visits.items i u h.visits at)

-- a visit of the first point with some facts
abbrev pub first_with : Bool → FactSet → Visit
first_with held facts = record { point = 0; held = held; facts = facts; depth = 0; last = None }

-- the first point is visited with facts that are all held when a process begins, or none of them
module _ (flow : Flow) (held : Bool) (some : FactSet) (vs ws : List Visit) (seen now : List FactSet) (places rows : Places) (visited : IsVisited (first_with held some) vs seen places ws now rows) (within : AreWithin vs 0) where
  first-visits : 0 < length flow.points → HasVisits flow vs seen places → HasVisits flow ws now rows
  first-visits there h = visits-visited (first_with held some) vs ws seen now places rows flow h there within (λ l last. absurd (none-some l last)) (omega arith) visited

  first-within : AreWithin ws 0
  first-within = visit-within (first_with held some) vs ws seen now places rows 0 (omega arith) within visited

  module _ (f : Fact) (j : ℕ) (are : has some j ≡ true → held ≡ held_at_start f) (h : AreVisitsOf flow f j vs seen) where
    begins-there : has some j ≡ true → IsLast flow f j vs (length vs) (first_with held some) None
    begins-there of = (refl, are of, refl)

    first-of : AreVisitsOf flow f j ws now
    first-of = of-visited (first_with held some) vs ws seen now places rows flow f j h begins-there visited

    first-found : has some j ≡ true → IsFound j ws 0 held 0
    first-found of = found-visited (first_with held some) vs ws seen now places rows flow f j h begins-there within of visited

  first-kept : (j : ℕ) (value : Bool) → IsFound j vs 0 value 0 → IsFound j ws 0 value 0
  first-kept j value found = found-kept vs ws (visit-kept (first_with held some) vs ws seen now places rows visited) j 0 value 0 found

pub begun : (flow : Flow) (facts : List Fact) (count : ℕ) (s : Search) (held lost : FactSet) (ms : List Visit) (mid : List FactSet) (more : Places) (t : Search)
    → IsUnvisited count s → count ≡ 2 * length flow.points → 0 < length flow.points
    → ((j : ℕ) (f : Fact) → slice_get facts j ≡ Some f → has held j ≡ held_at_start f)
    → ((j : ℕ) → has lost j ≡ (nat_lt j (length facts) && not (has held j)))
    → IsVisited (first_with true held) s.visits.items s.seen.items s.places.items ms mid more
    → IsVisited (first_with false lost) ms mid more t.visits.items t.seen.items t.places.items
    → IsSearching flow facts t 0
begun flow facts count s held lost ms mid more t none size there are_held are_lost first second = record {
  visits = first-visits flow false lost ms t.visits.items mid t.seen.items more t.places.items second within there (first-visits flow true held s.visits.items ms s.seen.items mid s.places.items more first (none-within flow count s none size) there (no-visits flow count s none size));
  within = omega arith;
  near = λ i u v is at. let d = first-within flow false lost ms t.visits.items mid t.seen.items more t.places.items second within i v at in omega (arith, d);
  each = λ j f is. to-search flow f j t.visits.items t.seen.items (first-of flow false lost ms t.visits.items mid t.seen.items more t.places.items second within f j (of_lost j f is) (here j f is)) (begins j f is (held_at_start f) refl);
  left = λ j f is i u p less at of there. absurd (omega (arith, less));
}
  where
    within : AreWithin ms 0
    within = first-within flow true held s.visits.items ms s.seen.items mid s.places.items more first (none-within flow count s none size)

    of_held : (j : ℕ) (f : Fact) → slice_get facts j ≡ Some f → has held j ≡ true → true ≡ held_at_start f
    of_held j f is of = sym of ∙ are_held j f is

    of_lost : (j : ℕ) (f : Fact) → slice_get facts j ≡ Some f → has lost j ≡ true → false ≡ held_at_start f
    of_lost j f is of = sym (both-second (nat_lt j (length facts)) (has held j) (has lost j) (are_lost j) of) ∙ are_held j f is

    here : (j : ℕ) (f : Fact) → slice_get facts j ≡ Some f → AreVisitsOf flow f j ms mid
    here j f is = first-of flow true held s.visits.items ms s.seen.items mid s.places.items more first (none-within flow count s none size) f j (of_held j f is) (no-visits-of flow count s none size f j)

    begins : (j : ℕ) (f : Fact) → slice_get facts j ≡ Some f → (b : Bool) → held_at_start f ≡ b → IsFound j t.visits.items 0 (held_at_start f) 0
    begins j f is true e =
        subst (λ b. IsFound j t.visits.items 0 b 0) (sym e)
        (first-kept flow false lost ms t.visits.items mid t.seen.items more t.places.items second within j true
        (first-found flow true held s.visits.items ms s.seen.items mid s.places.items more first (none-within flow count s none size) f j (of_held j f is) (no-visits-of flow count s none size f j) (are_held j f is ∙ e)))
    begins j f is false e =
        subst (λ b. IsFound j t.visits.items 0 b 0) (sym e)
        (first-found flow false lost ms t.visits.items mid t.seen.items more t.places.items second within f j (of_lost j f is) (here j f is)
        (are_lost j ∙ ap₂ (λ a b. a && not b) (lt-ltb j (length facts) (slice_get_within facts j f is)) (are_held j f is ∙ e)))
