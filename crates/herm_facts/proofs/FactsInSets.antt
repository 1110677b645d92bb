-- Sets that have the numbers of facts.
use Rattle.std.proofs.Common.{◌≡◌, ◌↔◌, ◌⊎◌, inl, inr, ℕ, List, [], ◌∷◌, ◌++◌, Bool, true, false, ◌||◌, nat_eq, Option, Some, refl, sym, ◌∙◌, subst}
use Rattle.std.proofs.lemmas.Bool.{eq-eqb, eqb-true, false≢true}
use Rattle.herm_model.specs.Lists.{IsIn, any_pass}
use Rattle.herm_model.specs.Paths.{Fact, Path, path_of, is_at_or_below}
use Rattle.herm_model.proofs.Lists.{in-append_left, in-append_right, in-append_cases}
use Rattle.herm_facts.proofs.Listed.{any-in, in-any}
use Rattle.herm_facts.proofs.SparseSets.{any-append}

-- the set has the numbers of these facts, and no others
abbrev pub HasListed : (Fact → Option ℕ) → List Fact → (ℕ → Bool) → Type 0
HasListed number fs set = (n : ℕ) → (set n ≡ true) ↔ ((f : Fact) × (number f ≡ Some n) × IsIn f fs)

-- the set has the numbers of the facts at these paths and below, and no others
abbrev pub HasBelow : (Fact → Option ℕ) → List Path → (ℕ → Bool) → Type 0
HasBelow number ps set = (n : ℕ) → (set n ≡ true) ↔ ((f : Fact) × (number f ≡ Some n) × (any_pass (λ p. is_at_or_below p (path_of f)) ps ≡ true))

-- the new set has what the old one has, and P
abbrev pub Gains : (ℕ → Type 0) → (ℕ → Bool) → (ℕ → Bool) → Type 0
Gains P old new = (n : ℕ) → (new n ≡ true) ↔ ((old n ≡ true) ⊎ P n)

pub no_listed : (number : Fact → Option ℕ) (set : ℕ → Bool) → ((n : ℕ) → set n ≡ false) → HasListed number [] set
no_listed number set none n = (λ h. absurd (false≢true (sym (none n) ∙ h)), λ m. absurd m.2)

pub listed_next : (number : Fact → Option ℕ) (fs : List Fact) (g : Fact) (old new : ℕ → Bool) → HasListed number fs old → Gains (λ n. number g ≡ Some n) old new → HasListed number (fs ++ g ∷ []) new
listed_next number fs g old new before gains n = (λ h. there ((gains n).0 h), λ m. (gains n).1 (back m.0 m.1 (in-append_cases m.0 fs (g ∷ []) m.2)))
  where
    there : (old n ≡ true) ⊎ (number g ≡ Some n) → (f : Fact) × (number f ≡ Some n) × IsIn f (fs ++ g ∷ [])
    there (inl h) = let m = (before n).0 h in (m.0, m.1, in-append_left m.0 fs (g ∷ []) m.2)
    there (inr e) = (g, e, in-append_right g fs (g ∷ []) (inl refl))

    back : (f : Fact) → number f ≡ Some n → IsIn f fs ⊎ ((f ≡ g) ⊎ ⊥) → (old n ≡ true) ⊎ (number g ≡ Some n)
    back f e (inl m) = inl ((before n).1 (f, e, m))
    back f e (inr (inl same)) = inr (subst (λ x. number x ≡ Some n) same e)
    back f e (inr (inr never)) = absurd never

pub no_below : (number : Fact → Option ℕ) (set : ℕ → Bool) → ((n : ℕ) → set n ≡ false) → HasBelow number [] set
no_below number set none n = (λ h. absurd (false≢true (sym (none n) ∙ h)), λ m. absurd (false≢true m.2))

or_cases : (a b : Bool) → (a || b) ≡ true → (a ≡ true) ⊎ (b ≡ true)
or_cases true b e = inl refl
or_cases false b e = inr e

pub or_first : (a b : Bool) → a ≡ true → (a || b) ≡ true
or_first true b e = refl
or_first false b e = absurd (false≢true e)

or_second : (a b : Bool) → b ≡ true → (a || b) ≡ true
or_second true b e = refl
or_second false b e = e

pub below_next : (number : Fact → Option ℕ) (ps : List Path) (p : Path) (old new : ℕ → Bool) → HasBelow number ps old → Gains (λ n. (f : Fact) × (number f ≡ Some n) × (is_at_or_below p (path_of f) ≡ true)) old new → HasBelow number (ps ++ p ∷ []) new
below_next number ps p old new before gains n = (λ h. there ((gains n).0 h), λ m. (gains n).1 (back m.0 m.1 m.2))
  where
    low : Fact → Path → Bool
    low f q = is_at_or_below q (path_of f)

    there : (old n ≡ true) ⊎ ((f : Fact) × (number f ≡ Some n) × (is_at_or_below p (path_of f) ≡ true)) → (f : Fact) × (number f ≡ Some n) × (any_pass (λ q. is_at_or_below q (path_of f)) (ps ++ p ∷ []) ≡ true)
    there (inl h) = let m = (before n).0 h in (m.0, m.1, any-append (low m.0) ps p ∙ or_first (any_pass (low m.0) ps) (low m.0 p) m.2)
    there (inr m) = (m.0, m.1, any-append (low m.0) ps p ∙ or_second (any_pass (low m.0) ps) (low m.0 p) m.2)

    back : (f : Fact) → number f ≡ Some n → any_pass (λ q. is_at_or_below q (path_of f)) (ps ++ p ∷ []) ≡ true → (old n ≡ true) ⊎ ((f : Fact) × (number f ≡ Some n) × (is_at_or_below p (path_of f) ≡ true))
    back f e h = by (or_cases (any_pass (low f) ps) (low f p) (sym (any-append (low f) ps p) ∙ h))
      where
        by : (any_pass (low f) ps ≡ true) ⊎ (low f p ≡ true) → (old n ≡ true) ⊎ ((f : Fact) × (number f ≡ Some n) × (is_at_or_below p (path_of f) ≡ true))
        by (inl m) = inl ((before n).1 (f, e, m))
        by (inr m) = inr (f, e, m)

-- a set that gets nothing
pub gains_none : (P : ℕ → Type 0) (set : ℕ → Bool) → ((n : ℕ) → P n → ⊥) → Gains P set set
gains_none P set none n = (λ h. inl h, back)
  where
    back : (set n ≡ true) ⊎ P n → set n ≡ true
    back (inl h) = h
    back (inr m) = absurd (none n m)

-- the numbers in a list that was empty are those that were added
pub none_before : (P : ℕ → Type 0) (xs ys : List ℕ) → xs ≡ [] → ((n : ℕ) → IsIn n ys ↔ (IsIn n xs ⊎ P n)) → (n : ℕ) → IsIn n ys ↔ P n
none_before P xs ys none each n = (λ m. there ((each n).0 m), λ m. (each n).1 (inr m))
  where
    there : IsIn n xs ⊎ P n → P n
    there (inl m) = absurd (subst (IsIn n) none m)
    there (inr m) = m

-- a set that gets the numbers of a list
pub gains_listed : (P : ℕ → Type 0) (numbers : List ℕ) (old new : ℕ → Bool) → ((n : ℕ) → IsIn n numbers ↔ P n) → ((n : ℕ) → new n ≡ (any_pass (nat_eq n) numbers || old n)) → Gains P old new
gains_listed P numbers old new each is n = (λ h. there (or_cases (any_pass (nat_eq n) numbers) (old n) (sym (is n) ∙ h)), back)
  where
    there : (any_pass (nat_eq n) numbers ≡ true) ⊎ (old n ≡ true) → (old n ≡ true) ⊎ P n
    there (inl m) = inr ((each n).0 (any-in n numbers m))
    there (inr h) = inl h

    back : (old n ≡ true) ⊎ P n → new n ≡ true
    back (inl h) = is n ∙ or_second (any_pass (nat_eq n) numbers) (old n) h
    back (inr m) = is n ∙ or_first (any_pass (nat_eq n) numbers) (old n) (in-any n numbers ((each n).1 m))

-- a set that gets one number
pub gains_one : (P : ℕ → Type 0) (k : ℕ) (old new : ℕ → Bool) → ((n : ℕ) → (n ≡ k) ↔ P n) → ((n : ℕ) → new n ≡ (nat_eq n k || old n)) → Gains P old new
gains_one P k old new each is n = (λ h. there (or_cases (nat_eq n k) (old n) (sym (is n) ∙ h)), back)
  where
    there : (nat_eq n k ≡ true) ⊎ (old n ≡ true) → (old n ≡ true) ⊎ P n
    there (inl e) = inr ((each n).0 (eqb-true n k e))
    there (inr h) = inl h

    back : (old n ≡ true) ⊎ P n → new n ≡ true
    back (inl h) = is n ∙ or_second (nat_eq n k) (old n) h
    back (inr m) = is n ∙ or_first (nat_eq n k) (old n) (eq-eqb n k ((each n).1 m))

-- a set of the same numbers
pub same_set : (P : ℕ → Type 0) (old new : ℕ → Bool) → ((n : ℕ) → new n ≡ old n) → ((n : ℕ) → (old n ≡ true) ↔ P n) → (n : ℕ) → (new n ≡ true) ↔ P n
same_set P old new same each n = (λ h. (each n).0 (sym (same n) ∙ h), λ m. same n ∙ (each n).1 m)
