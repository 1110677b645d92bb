-- What is found, and what is left, where one element of a list passes a test.
use Rattle.std.specs.Prelude.{◌≡◌, ◌≢◌, ℕ, zero, suc, Bool, true, false, cond, not, ◌||◌, List, [], ◌∷◌, Option, Some, None, find, remove, slice_get, refl}
use Rattle.std.specs.List.{list_any}
use Rattle.std.proofs.Common.{ap, sym, ◌∙◌, arith}
use Rattle.herm_rows.specs.Keys.{without}

any-cond : (b c : Bool) → b ≡ false → (b || c) ≡ c
any-cond true c is = cc
any-cond false c is = refl

any-true : (b : Bool) → (b || true) ≡ true
any-true true = refl
any-true false = refl

or-true : (b c : Bool) → b ≡ true → (b || c) ≡ true
or-true true c is = refl
or-true false c is = cc

module _ {X : Type 0} where
  found-cond : (b : Bool) (x : X) (rest : Option X) → b ≡ true → cond b (Some x) rest ≡ Some x
  found-cond true x rest is = refl
  found-cond false x rest is = cc

  passed-cond : (b : Bool) (x : X) (rest : Option X) → b ≡ false → cond b (Some x) rest ≡ rest
  passed-cond true x rest is = cc
  passed-cond false x rest is = refl

  left-cond : (b : Bool) (x : X) (rest : List X) → b ≡ false → cond (not b) (x ∷ rest) rest ≡ x ∷ rest
  left-cond true x rest is = cc
  left-cond false x rest is = refl

  taken-cond : (b : Bool) (x : X) (rest : List X) → b ≡ true → cond (not b) (x ∷ rest) rest ≡ rest
  taken-cond true x rest is = refl
  taken-cond false x rest is = cc

  -- no element passes the test
  abbrev pub NonePass : (X → Bool) → List X → Type 0
  NonePass p xs = (k : ℕ) (x : X) → slice_get xs k ≡ Some x → p x ≡ false

  tail-none : (p : X → Bool) (x : X) (xs : List X) → NonePass p (x ∷ xs) → NonePass p xs
  tail-none p x xs none = λ k y at. none (suc k) y at

  pub none-found : (p : X → Bool) (xs : List X) → NonePass p xs → find p xs ≡ None
  none-found p [] none = refl
  none-found p (x ∷ xs) none =
      passed-cond (p x) x (find p xs) (none 0 x refl) ∙ none-found p xs (tail-none p x xs none)

  pub all-left : (p : X → Bool) (xs : List X) → NonePass p xs → xs ≡ without p xs
  all-left p [] none = refl
  all-left p (x ∷ xs) none =
      ap (λ ys. x ∷ ys) (all-left p xs (tail-none p x xs none))
      ∙ sym (left-cond (p x) x (without p xs) (none 0 x refl))

  pub none-any : (p : X → Bool) (xs : List X) → NonePass p xs → list_any p xs ≡ false
  none-any p [] none = refl
  none-any p (x ∷ xs) none = any-cond (p x) (list_any p xs) (none 0 x refl) ∙ none-any p xs (tail-none p x xs none)

  pub one-any : (p : X → Bool) (xs : List X) (i : ℕ) (y : X) → slice_get xs i ≡ Some y → p y ≡ true
      → list_any p xs ≡ true
  one-any p [] i y at is = absurd (cc at)
  one-any p (x ∷ xs) zero y at is =
      let own : x ≡ y = cc at in or-true (p x) (list_any p xs) (ap p own ∙ is)
  one-any p (x ∷ xs) (suc i) y at is = ap (λ b. p x || b) (one-any p xs i y at is) ∙ any-true (p x)

  -- the one element that passes is found
  pub one-found : (p : X → Bool) (xs : List X) (i : ℕ) (y : X) → slice_get xs i ≡ Some y → p y ≡ true
      → ((k : ℕ) (x : X) → slice_get xs k ≡ Some x → k ≢ i → p x ≡ false) → find p xs ≡ Some y
  one-found p [] i y at is others = absurd (cc at)
  one-found p (x ∷ xs) zero y at is others =
      let own : x ≡ y = cc at in found-cond (p x) x (find p xs) (ap p own ∙ is) ∙ ap Some own
  one-found p (x ∷ xs) (suc i) y at is others =
      passed-cond (p x) x (find p xs) (others 0 x refl (omega arith))
      ∙ one-found p xs i y at is (λ k z there apart. others (suc k) z there (omega arith))

  -- where no other element passes, the others are left
  pub others-left : (p : X → Bool) (xs : List X) (i : ℕ) (y : X) → slice_get xs i ≡ Some y → p y ≡ true
      → ((k : ℕ) (x : X) → slice_get xs k ≡ Some x → k ≢ i → p x ≡ false) → remove xs i ≡ without p xs
  others-left p [] i y at is others = absurd (cc at)
  others-left p (x ∷ xs) zero y at is others =
      let own : x ≡ y = cc at in
      all-left p xs (λ k z there. others (suc k) z there (omega arith))
      ∙ sym (taken-cond (p x) x (without p xs) (ap p own ∙ is))
  others-left p (x ∷ xs) (suc i) y at is others =
      ap (λ ys. x ∷ ys) (others-left p xs i y at is (λ k z there apart. others (suc k) z there (omega arith)))
      ∙ sym (left-cond (p x) x (without p xs) (others 0 x refl (omega arith)))
