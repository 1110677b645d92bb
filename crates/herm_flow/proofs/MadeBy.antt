-- Facts are made by the parameters beside which one number stands, where no argument's path begins a longer one.
use Rattle.std.proofs.Common.{◌≡◌, ◌<◌, ◌≤◌, nat_lt, ltb-true, ltb-false, arith, ◌||◌, ℕ, zero, suc, List, [], ◌∷◌, ◌++◌, Bool, true, false, nat_eq, ◌⊎◌, inl, inr, Option, Some, None, slice_get, length, refl, sym, ap, subst, ◌∙◌, append-nil, Vec}
use Rattle.std.specs.Global.{Global}
use Rattle.std.proofs.lemmas.Bool.{eq-eqb, eqb-true}
use Rattle.std.proofs.lemmas.Option.{slice_get_past}
use Rattle.herm_model.specs.Lists.{IsIn, any_pass, list_of}
use Rattle.herm_model.specs.Paths.{Path, Fact, same_fact}
use Rattle.herm_model.specs.Types.{TypeTable}
use Rattle.herm_model.specs.Expressions.{Atom, literal, path}
use Rattle.herm_model.specs.Facts.{facts_to, with_prefixes}
use Rattle.herm_model.specs.FactsOfStatements.{full}
use Rattle.herm_model.specs.Calls.{argument_path}
use Rattle.herm_model.proofs.Beginnings.{Begins}
use Rattle.herm_model.proofs.FactTests.{listed-IsIn, IsIn-listed}
use Rattle.herm_model.proofs.Keys.{same-tests}
use Rattle.herm_model.proofs.Lists.{or-either, or-left, not_true}
use Rattle.herm_flow.specs.Touched.{number_by, AreOwn, IsTrail, IsTrailOf, numbers_at, AreTrails, AreApart, AreMadeBy, makes_by, IsOneAtMost}
use Rattle.herm_flow.proofs.Covering.{any-in, any-from, not-both}
use Rattle.herm_flow.proofs.Marked.{with-false}
use Rattle.herm_flow.proofs.Tests.{none-passes}
use Rattle.herm_flow.proofs.OnTheWay.{way_of, Makes, IsTo, on-way-to, to-makes, nothing-made, made-way, compared, begins-trans, begins-self}
use Rattle.herm_flow.proofs.TrailNumbers.{HasNumber, onto, numbered-way, way-on, on-trail, passed}

module _ (types : TypeTable) (variables : List ℕ) (f : Fact) where
  -- an argument makes the fact
  abbrev makes_of : Option Atom → Bool
  makes_of o = any_pass (λ p. any_pass (λ g. any_pass (same_fact f) (with_prefixes types variables g)) (full types variables p)) (argument_path o)

  makes-is : (p : Path) → makes_of (Some (path p)) ≡ true → Makes types variables p f
  makes-is p h =
      let x = any-from (λ q. any_pass (λ g. any_pass (same_fact f) (with_prefixes types variables g)) (full types variables q)) (p ∷ []) h in
      let y = any-from (λ g. any_pass (same_fact f) (with_prefixes types variables g)) (full types variables p) (alone x.0 x.1 x.2) in
      (y.0, y.1, listed-IsIn f (with_prefixes types variables y.0) y.2)
    where
      alone : (q : Path) → IsIn q (p ∷ []) → any_pass (λ g. any_pass (same_fact f) (with_prefixes types variables g)) (full types variables q) ≡ true → any_pass (λ g. any_pass (same_fact f) (with_prefixes types variables g)) (full types variables p) ≡ true
      alone q (inl e) k = subst (λ r. any_pass (λ g. any_pass (same_fact f) (with_prefixes types variables g)) (full types variables r) ≡ true) e k
      alone q (inr n) k = absurd n

  is-makes : (p : Path) → Makes types variables p f → makes_of (Some (path p)) ≡ true
  is-makes p m = or-left _ false (any-in (λ g. any_pass (same_fact f) (with_prefixes types variables g)) (full types variables p) m.0 m.1 (IsIn-listed f (with_prefixes types variables m.0) m.2))

  -- an argument that makes it, or none does
  found : (arguments : List Atom) (wanted : ℕ → Bool) → ((k : ℕ) × (p : Path) × (wanted k ≡ true) × (slice_get arguments k ≡ Some (path p)) × Makes types variables p f) ⊎ ((k : ℕ) → wanted k ≡ true → makes_of (slice_get arguments k) ≡ false)
  found [] wanted = inr (λ k h. refl)
  found (a ∷ arguments) wanted = first a (wanted zero) (makes_of (Some a)) refl refl (found arguments (λ k. wanted (suc k)))
    where
      Found : Atom → Type 0
      Found a = ((k : ℕ) × (p : Path) × (wanted k ≡ true) × (slice_get (a ∷ arguments) k ≡ Some (path p)) × Makes types variables p f) ⊎ ((k : ℕ) → wanted k ≡ true → makes_of (slice_get (a ∷ arguments) k) ≡ false)

      Behind : Type 0
      Behind = ((k : ℕ) × (p : Path) × (wanted (suc k) ≡ true) × (slice_get arguments k ≡ Some (path p)) × Makes types variables p f) ⊎ ((k : ℕ) → wanted (suc k) ≡ true → makes_of (slice_get arguments k) ≡ false)

      behind : (a : Atom) → (wanted zero ≡ true → makes_of (Some a) ≡ false) → Behind → Found a
      behind a not (inl x) = inl (suc x.0, x.1, x.2, x.3, x.4)
      behind a not (inr none) = inr each
        where
          each : (k : ℕ) → wanted k ≡ true → makes_of (slice_get (a ∷ arguments) k) ≡ false
          each zero h = not h
          each (suc k) h = none k h

      first : (a : Atom) (w b : Bool) → wanted zero ≡ w → makes_of (Some a) ≡ b → Behind → Found a
      first a false b h g more = behind a (λ t. not-both (wanted zero) t h) more
      first a true false h g more = behind a (λ t. g) more
      first (literal l) true true h g more = not_true g
      first (path p) true true h g more = inl (zero, p, h, refl, makes-is p g)

  module _ (arguments : List Atom) (wanted : ℕ → Bool) (lists : List (Vec ℕ Global)) (t : AreTrails arguments wanted lists) (apart : AreApart lists) where
    trail-at : (k : ℕ) (p : Path) → wanted k ≡ true → slice_get arguments k ≡ Some (path p) → IsTrail p (number_by t.numbers) 0 (numbers_at lists k)
    trail-at k p h e = subst (λ o. IsTrailOf o (number_by t.numbers) (numbers_at lists k)) e (t.each k h)

    -- no argument begins a longer one
    same-path : (i j v : ℕ) (p q : Path) → wanted i ≡ true → slice_get arguments i ≡ Some (path (v ∷ p)) → wanted j ≡ true → slice_get arguments j ≡ Some (path q) → Begins (v ∷ p) q → q ≡ v ∷ p
    same-path i j v p q h e g d b = by b.0 b.1
      where
        by : (r : Path) → q ≡ (v ∷ p) ++ r → q ≡ v ∷ p
        by [] is = is ∙ append-nil (v ∷ p)
        by (s ∷ r) is =
            let x = passed t.numbers v p s r 0 (numbers_at lists i) (numbers_at lists j) (trail-at i (v ∷ p) h e) (subst (λ y. IsTrail y (number_by t.numbers) 0 (numbers_at lists j)) is (trail-at j q g d)) in
            absurd (not-both _ x.2 (apart i j x.0 x.1))

    -- some path begins those that make the fact, and no other
    abbrev IsShared : Path → Type 0
    IsShared x = (l : ℕ) (q : Path) → wanted l ≡ true → slice_get arguments l ≡ Some (path q) → (Makes types variables q f → Begins x q) × (Begins x q → Makes types variables q f)

    abbrev Shared : Path → Type 0
    Shared p = (v : ℕ) × (x : Path) × Begins (v ∷ x) p × IsShared (v ∷ x)

    shared-to : (k : ℕ) (p : Path) → wanted k ≡ true → slice_get arguments k ≡ Some (path p) → IsTo types variables p f → Shared p
    shared-to k p h e to = (s.0, s.1, s.3, λ l q g d. (λ m. subst (λ x. Begins x q) s.2 (on l q g d m (made-way types variables q f m)), λ b. to-makes types variables q f (subst (λ x. IsIn f (facts_to types variables x)) (sym b.1) (s.4 b.0))))
      where
        s : (v : ℕ) × (q : List ℕ) × (way_of f ≡ v ∷ q) × Begins (v ∷ q) p × ((r : List ℕ) → IsIn f (facts_to types variables ((v ∷ q) ++ r)))
        s = on-way-to types variables p f to.1

        same : (l : ℕ) (q : Path) → wanted l ≡ true → slice_get arguments l ≡ Some (path q) → Makes types variables q f → Begins q (way_of f) → Begins (way_of f) q
        same l [] g d m b = nothing-made types variables f m
        same l (v ∷ q) g d m b = subst (Begins (way_of f)) (same-path l k v q p g d h e (begins-trans (v ∷ q) (way_of f) p b to.0)) to.0

        on : (l : ℕ) (q : Path) → wanted l ≡ true → slice_get arguments l ≡ Some (path q) → Makes types variables q f → IsTo types variables q f ⊎ Begins q (way_of f) → Begins (way_of f) q
        on l q g d m (inl y) = y.0
        on l q g d m (inr b) = same l q g d m b

    shared-below : (k v : ℕ) (p : Path) → wanted k ≡ true → slice_get arguments k ≡ Some (path (v ∷ p)) → Makes types variables (v ∷ p) f → Begins (v ∷ p) (way_of f) → Shared (v ∷ p)
    shared-below k v p h e made below = (v, p, begins-self (v ∷ p), λ l q g d. (λ m. on l q g d m (made-way types variables q f m), λ b. subst (λ x. Makes types variables x f) (sym (same-path k l v p q h e g d b)) made))
      where
        same : (l : ℕ) (q : Path) → wanted l ≡ true → slice_get arguments l ≡ Some (path q) → Makes types variables q f → Begins (v ∷ p) q ⊎ Begins q (v ∷ p) → Begins (v ∷ p) q
        same l q g d m (inl b) = b
        same l [] g d m (inr b) = nothing-made types variables f m
        same l (w ∷ q) g d m (inr b) = subst (Begins (v ∷ p)) (same-path l k w q (v ∷ p) g d h e b) (begins-self (v ∷ p))

        on : (l : ℕ) (q : Path) → wanted l ≡ true → slice_get arguments l ≡ Some (path q) → Makes types variables q f → IsTo types variables q f ⊎ Begins q (way_of f) → Begins (v ∷ p) q
        on l q g d m (inl y) = begins-trans (v ∷ p) (way_of f) q below y.0
        on l q g d m (inr b) = same l q g d m (compared (v ∷ p) q (way_of f) below b)

    shared : (k : ℕ) (p : Path) → wanted k ≡ true → slice_get arguments k ≡ Some (path p) → Makes types variables p f → IsTo types variables p f ⊎ Begins p (way_of f) → Shared p
    shared k p h e m (inl to) = shared-to k p h e to
    shared k [] h e m (inr b) = nothing-made types variables f m
    shared k (v ∷ p) h e m (inr b) = shared-below k v p h e m b

    abbrev IsMade : (ℕ → Bool) → Type 0
    IsMade among = IsOneAtMost among × ((k : ℕ) → wanted k ≡ true → makes_of (slice_get arguments k) ≡ any_pass among (numbers_at lists k))

    by-number : (v : ℕ) (x : Path) (n : ℕ) → IsShared (v ∷ x) → HasNumber t.numbers (onto (v ∷ x) []) n → IsMade (nat_eq n)
    by-number v x n is has = (λ i j h g. sym (eqb-true n i h) ∙ eqb-true n j g, λ l h. each l h (slice_get arguments l) refl (t.each l h))
      where
        nothing : (ns : List ℕ) → ns ≡ [] → false ≡ any_pass (nat_eq n) ns
        nothing ns e = sym (ap (any_pass (nat_eq n)) e)

        each : (l : ℕ) → wanted l ≡ true → (o : Option Atom) → slice_get arguments l ≡ o → IsTrailOf o (number_by t.numbers) (numbers_at lists l) → makes_of o ≡ any_pass (nat_eq n) (numbers_at lists l)
        each l h None e trail = nothing (numbers_at lists l) trail
        each l h (Some (literal a)) e trail = nothing (numbers_at lists l) trail
        each l h (Some (path q)) e trail = same-tests (makes_of (Some (path q))) (any_pass (nat_eq n) (numbers_at lists l))
            (λ b. any-in (nat_eq n) (numbers_at lists l) n (way-on t.numbers t.last t.own v x q (numbers_at lists l) n has trail ((is l q h e).0 (makes-is q b))) (eq-eqb n n refl))
            (λ b. let y = any-from (nat_eq n) (numbers_at lists l) b in is-makes q ((is l q h e).1 (on-trail t.numbers t.last t.own (v ∷ x) q (numbers_at lists l) n has trail (subst (λ k. IsIn k (numbers_at lists l)) (sym (eqb-true n y.0 y.2)) y.1))))

    made : ((k : ℕ) × (p : Path) × (wanted k ≡ true) × (slice_get arguments k ≡ Some (path p)) × Makes types variables p f) ⊎ ((k : ℕ) → wanted k ≡ true → makes_of (slice_get arguments k) ≡ false) → (among : ℕ → Bool) × IsMade among
    made (inr none) = (λ n. false, (λ i j h. not_true h, λ k h. none k h ∙ sym (none-passes (numbers_at lists k))))
    made (inl x) =
        let s = shared x.0 x.1 x.2 x.3 x.4 (made-way types variables x.1 f x.4) in
        let n = numbered-way t.numbers t.last t.own s.0 s.1 x.1 (numbers_at lists x.0) (trail-at x.0 x.1 x.2 x.3) s.2 in
        (nat_eq n.0, by-number s.0 s.1 n.0 s.3 n.2)

pub made_by_trails : (arguments : List Atom) (wanted : ℕ → Bool) (lists : List (Vec ℕ Global)) → AreTrails arguments wanted lists → AreApart lists → (types : TypeTable) (variables : List ℕ) → AreMadeBy types variables arguments wanted true (numbers_at lists)
made_by_trails arguments wanted lists t apart types variables = λ f.
    let m = made types variables f arguments wanted lists t apart (found types variables f arguments wanted) in
    (m.0, λ one. m.1.0, m.1.1)

-- ---- each parameter's own place

pub made_by_places : (arguments : List Atom) (wanted : ℕ → Bool) (lists : List (Vec ℕ Global)) → length lists ≡ length arguments → ((k : ℕ) → k < length arguments → numbers_at lists k ≡ k ∷ []) → (types : TypeTable) (variables : List ℕ) → AreMadeBy types variables arguments wanted false (numbers_at lists)
made_by_places arguments wanted lists many own types variables = λ f. (makes_by types variables arguments f, λ s. not_true s, λ k h. by f k (nat_lt k (length arguments)) refl)
  where
    by : (f : Fact) (k : ℕ) (b : Bool) → nat_lt k (length arguments) ≡ b → makes_by types variables arguments f k ≡ any_pass (makes_by types variables arguments f) (numbers_at lists k)
    by f k true e = subst (λ ns. makes_by types variables arguments f k ≡ any_pass (makes_by types variables arguments f) ns) (sym (own k (ltb-true k (length arguments) e))) (with-false (makes_by types variables arguments f k))
    by f k false e =
        let over : length arguments ≤ k = ltb-false k (length arguments) e in
        let behind : length lists ≤ k = omega (arith, over, many) in
        ap (makes_of types variables f) (slice_get_past arguments k over) ∙ sym (ap (λ o. any_pass (makes_by types variables arguments f) (list_of (λ (v : Vec ℕ Global). v.items) o)) (slice_get_past lists k behind))
