-- Tests that decide, and how they are joined.
use Rattle.std.proofs.Common.{◌≡◌, ◌↔◌, ℕ, zero, suc, ◌+◌, ◌<◌, ◌≤◌, List, [], ◌∷◌, Bool, true, false, not, ◌&&◌, ◌||◌, ◌⊎◌, inl, inr, nat_eq, nat_lt, nat_le, Option, Some, None, is_some, slice_get, IsTrue, IsFalse, refl, sym, subst, ◌∙◌, arith, true≢false}
use Rattle.std.proofs.lemmas.Bool.{eq-eqb, eqb-true, lt-ltb, ltb-true, le-leb, leb-true}
use Rattle.herm_model.specs.Lists.{IsIn, all_pass, any_pass, map_or, range}
use Rattle.herm_model.specs.Paths.{Path, Fact, same_path, same_fact}
use Rattle.herm_model.specs.Statements.{Differ}
use Rattle.herm_model.specs.laws.FlowLaws.{Rise}
use Rattle.herm_model.specs.tests.TableTests.{are_different, do_rise}
use Rattle.herm_model.proofs.Lists.{not_true, and-both, both-and, or-either, or-left, or-right, every-in, in-every}
use Rattle.herm_model.proofs.Equality.{same_numbers-is, same_numbers_self, same_fact-is, same_fact_self}

-- the test is true exactly where it holds
abbrev pub Decides : Bool → Type 0 → Type 0
Decides b P = IsTrue b ↔ P

pub itself : (b : Bool) → Decides b (IsTrue b)
itself b = ((λ h. h), λ h. h)

module _ {P Q : Type 0} where
  pub through : (b : Bool) → (P → Q) → (Q → P) → Decides b P → Decides b Q
  through b f g d = (λ h. f (d.0 h), λ q. d.1 (g q))

  pub both-decide : (a b : Bool) → Decides a P → Decides b Q → Decides (a && b) (P × Q)
  both-decide a b d e = (λ h. let r = and-both a b h in (d.0 r.0, e.0 r.1), λ h. both-and a b (d.1 h.0) (e.1 h.1))

  pub either-decides : (a b : Bool) → Decides a P → Decides b Q → Decides (a || b) (P ⊎ Q)
  either-decides a b d e = (λ h. to (or-either a b h), from)
    where
      to : IsTrue a ⊎ IsTrue b → P ⊎ Q
      to (inl h) = inl (d.0 h)
      to (inr h) = inr (e.0 h)

      from : P ⊎ Q → IsTrue (a || b)
      from (inl p) = or-left a b (d.1 p)
      from (inr q) = or-right a b (e.1 q)

pub true-decides : {P : Type 0} → P → Decides true P
true-decides p = (λ h. p, λ q. refl)

pub false-decides : {P : Type 0} → (P → ⊥) → Decides false P
false-decides f = (λ h. not_true h, λ p. absurd (f p))

pub not-decides : {P : Type 0} (b : Bool) → Decides b P → Decides (not b) (P → ⊥)
not-decides true d = ((λ h p. not_true h), λ f. absurd (f (d.0 refl)))
not-decides false d = ((λ h p. not_true (d.1 p)), λ f. refl)

pub false-is : (b : Bool) → Decides (not b) (IsFalse b)
false-is true = (λ h. not_true h, λ h. absurd (true≢false h))
false-is false = (λ h. refl, λ h. refl)

pub numbers-decide : (m n : ℕ) → Decides (nat_eq m n) (m ≡ n)
numbers-decide m n = (λ h. eqb-true m n h, λ e. eq-eqb m n e)

pub below-decides : (m n : ℕ) → Decides (nat_lt m n) (m < n)
below-decides m n = (λ h. ltb-true m n h, λ h. lt-ltb m n h)

pub at_most-decides : (m n : ℕ) → Decides (nat_le m n) (m ≤ n)
at_most-decides m n = (λ h. leb-true m n h, λ h. le-leb m n h)

pub paths-decide : (p q : Path) → Decides (same_path p q) (p ≡ q)
paths-decide p q = (λ h. same_numbers-is p q h, λ e. subst (λ r. IsTrue (same_path p r)) e (same_numbers_self p))

pub facts-decide : (f g : Fact) → Decides (same_fact f g) (f ≡ g)
facts-decide f g = (λ h. same_fact-is f g h, λ e. subst (λ r. IsTrue (same_fact f r)) e (same_fact_self f))

module _ {X : Type 0} where
  pub there-decides : (o : Option X) → Decides (is_some o) ((x : X) × (o ≡ Some x))
  there-decides None = ((λ h. not_true h), λ h. let k : ⊥ = cc h.1 in absurd k)
  there-decides (Some x) = ((λ h. (x, refl)), λ h. refl)

  module _ (test : X → Bool) (P : X → Type 0) (each : (x : X) → Decides (test x) (P x)) where
    pub all-decide : (xs : List X) → Decides (all_pass test xs) ((x : X) → IsIn x xs → P x)
    all-decide xs = ((λ h x i. (each x).0 (every-in test x xs h i)), λ h. in-every test xs (λ x i. (each x).1 (h x i)))

    pub some-decides : (xs : List X) → Decides (any_pass test xs) ((x : X) × IsIn x xs × P x)
    some-decides [] = ((λ h. not_true h), λ h. absurd h.1)
    some-decides (y ∷ ys) = ((λ h. to (some-decides ys) (or-either (test y) (any_pass test ys) h)), λ h. from (some-decides ys) h.0 h.1 h.2)
      where
        to : Decides (any_pass test ys) ((x : X) × IsIn x ys × P x) → IsTrue (test y) ⊎ IsTrue (any_pass test ys) → (x : X) × IsIn x (y ∷ ys) × P x
        to again (inl h) = (y, inl refl, (each y).0 h)
        to again (inr h) = let r = again.0 h in (r.0, inr r.1, r.2)

        from : Decides (any_pass test ys) ((x : X) × IsIn x ys × P x) → (x : X) → IsIn x (y ∷ ys) → P x → IsTrue (any_pass test (y ∷ ys))
        from again x (inl e) p = or-left (test y) _ ((each y).1 (subst P e p))
        from again x (inr i) p = or-right (test y) _ (again.1 (x, i, p))

    pub chosen-decides : (o : Option X) → Decides (map_or false test o) ((x : X) × (o ≡ Some x) × P x)
    chosen-decides None = ((λ h. not_true h), λ h. let k : ⊥ = cc h.1 in absurd k)
    chosen-decides (Some y) = ((λ h. (y, refl, (each y).0 h)), λ h. (each y).1 (subst P (let e : h.0 ≡ y = cc h.1 in e) h.2))

    pub got-decides : (xs : List X) → Decides (all_pass test xs) ((i : ℕ) (x : X) → slice_get xs i ≡ Some x → P x)
    got-decides [] = ((λ h i x e. let k : ⊥ = cc e in absurd k), λ h. refl)
    got-decides (y ∷ ys) = ((λ h. let r = and-both (test y) _ h in to r.0 ((got-decides ys).0 r.1)), λ h. both-and (test y) _ ((each y).1 (h 0 y refl)) ((got-decides ys).1 (λ i x e. h (suc i) x e)))
      where
        to : IsTrue (test y) → ((i : ℕ) (x : X) → slice_get ys i ≡ Some x → P x) → (i : ℕ) (x : X) → slice_get (y ∷ ys) i ≡ Some x → P x
        to h again zero x e = subst P (let k : y ≡ x = cc e in k) ((each y).0 h)
        to h again (suc i) x e = again i x e

  module _ (same : X → X → Bool) (equal : (x y : X) → Decides (same x y) (x ≡ y)) where
    pub member-decides : (x : X) (xs : List X) → Decides (any_pass (same x) xs) (IsIn x xs)
    member-decides x [] = ((λ h. not_true h), λ h. absurd h)
    member-decides x (y ∷ ys) = either-decides (same x y) (any_pass (same x) ys) (equal x y) (member-decides x ys)

    pub different-decides : (xs : List X) → Decides (are_different same xs) (Differ xs)
    different-decides [] = ((λ h. tt), λ h. refl)
    different-decides (x ∷ xs) = both-decide (not (any_pass (same x) xs)) (are_different same xs) (not-decides (any_pass (same x) xs) (member-decides x xs)) (different-decides xs)

pub rise-decides : (ns : List ℕ) → Decides (do_rise ns) (Rise ns)
rise-decides [] = ((λ h. tt), λ h. refl)
rise-decides (n ∷ ns) = both-decide (all_pass (nat_lt n) ns) (do_rise ns) (all-decide (nat_lt n) (λ m. n < m) (below-decides n) ns) (rise-decides ns)

-- numbers below a bound
pub below-in : (k n i : ℕ) → k ≤ i → i < k + n → IsIn i (range k n)
below-in k zero i l h = let z : ⊥ = omega arith in absurd z
below-in k (suc n) i l h = by (nat_eq i k) refl (below-in (suc k) n i)
  where
    by : (b : Bool) → nat_eq i k ≡ b → (suc k ≤ i → i < suc k + n → IsIn i (range (suc k) n)) → IsIn i (range k (suc n))
    by true e again = inl (eqb-true i k e)
    by false e again = let apart : i ≡ k → ⊥ = λ z. true≢false (sym (eq-eqb i k z) ∙ e) in inr (again (omega arith) (omega arith))

in-below : (k n i : ℕ) → IsIn i (range k n) → (k ≤ i) × (i < k + n)
in-below k zero i h = absurd h
in-below k (suc n) i (inl e) = (omega arith, omega arith)
in-below k (suc n) i (inr h) = let r = in-below (suc k) n i h in (omega (arith, r.0), omega (arith, r.1))

pub range-decides : (test : ℕ → Bool) (P : ℕ → Type 0) → ((i : ℕ) → Decides (test i) (P i)) → (n : ℕ) → Decides (all_pass test (range 0 n)) ((i : ℕ) → i < n → P i)
range-decides test P each n = through _ (λ h i l. h i (below-in 0 n i (omega arith) (omega arith))) (λ h i m. h i (let r = in-below 0 n i m in omega (arith, r.1))) (all-decide test P each (range 0 n))
