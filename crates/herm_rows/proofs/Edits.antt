-- What stands at the places of a list after an element is inserted, removed or pushed.
use Rattle.std.specs.Prelude.{◌≡◌, ◌≢◌, ℕ, zero, suc, ◌<◌, ◌≤◌, ◌⊎◌, Bool, true, false, nat_lt, List, [], ◌∷◌, ◌++◌, length, Some, slice_get, insert, remove, refl}
use Rattle.std.proofs.Common.{sym, ap, arith, inl, inr}
use borrow.Author.Tests.{ltb-true, ltb-false}

pub some-same : {X : Type 0} (x y : X) → Some x ≡ Some y → x ≡ y
some-same x y same = cc

module _ {X : Type 0} where
  -- an element of a list that y was inserted into: it stood before the place, is y, or stood behind
  pub record StoodBehind (xs : List X) (p : ℕ) (i : ℕ) (x : X) : Type 0 where
    pub at : ℕ
    pub is : i ≡ suc at
    pub behind : p ≤ at
    pub stood : slice_get xs at ≡ Some x

  abbrev pub Inserted : List X → ℕ → X → ℕ → X → Type 0
  Inserted xs p y i x = ((i < p) × (slice_get xs i ≡ Some x)) ⊎ (((i ≡ p) × (x ≡ y)) ⊎ StoodBehind xs p i x)

  further : (z : X) (xs : List X) (p : ℕ) (y : X) (i : ℕ) (x : X) → Inserted xs p y i x
      → Inserted (z ∷ xs) (suc p) y (suc i) x
  further z xs p y i x case =
      elim case [
        | inl below ↦ inl (omega arith, below.1)
        | inr rest ↦ elim rest [
          | inl own ↦ inr (inl (ap (λ n. suc n) own.0, own.1))
          | inr behind ↦ inr (inr (record {
            at = suc behind.at;
            is = ap (λ n. suc n) behind.is;
            behind = omega (arith, behind.behind);
            stood = behind.stood;
          }))
        ]
      ]

  pub insert-cases : (xs : List X) (p : ℕ) (y : X) (i : ℕ) (x : X) → p ≤ length xs
      → slice_get (insert xs p y) i ≡ Some x → Inserted xs p y i x
  insert-cases xs zero y zero x within at = inr (inl (refl, sym (some-same y x at)))
  insert-cases xs zero y (suc i) x within at =
      inr (inr (record { at = i; is = refl; behind = omega arith; stood = at }))
  insert-cases [] (suc p) y i x within at = absurd (omega arith)
  insert-cases (z ∷ xs) (suc p) y zero x within at = inl (omega arith, at)
  insert-cases (z ∷ xs) (suc p) y (suc i) x within at =
      further z xs p y i x (insert-cases xs p y i x (omega arith) at)

  pub insert-there : (xs : List X) (p : ℕ) (y : X) → p ≤ length xs → slice_get (insert xs p y) p ≡ Some y
  insert-there xs zero y within = refl
  insert-there [] (suc p) y within = absurd (omega arith)
  insert-there (z ∷ xs) (suc p) y within = insert-there xs p y (omega arith)

  pub insert-keeps : (xs : List X) (p : ℕ) (y : X) (i : ℕ) (x : X) → slice_get xs i ≡ Some x
      → (k : ℕ) × (slice_get (insert xs p y) k ≡ Some x)
  insert-keeps xs zero y i x at = (suc i, at)
  insert-keeps [] (suc p) y i x at = absurd (cc at)
  insert-keeps (z ∷ xs) (suc p) y zero x at = (0, at)
  insert-keeps (z ∷ xs) (suc p) y (suc i) x at =
      let rest = insert-keeps xs p y i x at in (suc rest.0, rest.1)

  -- an element of a list that one was removed from, with the place where it stood
  pub record Stood (xs : List X) (p : ℕ) (i : ℕ) (x : X) : Type 0 where
    pub at : ℕ
    pub is : ((i < p) × (at ≡ i)) ⊎ ((p ≤ i) × (at ≡ suc i))
    pub stood : slice_get xs at ≡ Some x

  removed-further : (z : X) (xs : List X) (p i : ℕ) (x : X) → Stood xs p i x → Stood (z ∷ xs) (suc p) (suc i) x
  removed-further z xs p i x case = record {
    at = suc case.at;
    is = elim case.is [
      | inl below ↦ inl (omega (arith, below.0), ap (λ n. suc n) below.1)
      | inr behind ↦ inr (omega (arith, behind.0), ap (λ n. suc n) behind.1)
    ];
    stood = case.stood;
  }

  pub remove-cases : (xs : List X) (p i : ℕ) (x : X) → slice_get (remove xs p) i ≡ Some x → Stood xs p i x
  remove-cases [] zero i x at = absurd (cc at)
  remove-cases [] (suc p) i x at = absurd (cc at)
  remove-cases (z ∷ xs) zero i x at = record { at = suc i; is = inr (omega arith, refl); stood = at }
  remove-cases (z ∷ xs) (suc p) zero x at = record { at = 0; is = inl (omega arith, refl); stood = at }
  remove-cases (z ∷ xs) (suc p) (suc i) x at = removed-further z xs p i x (remove-cases xs p i x at)

  pub stood-apart : (xs : List X) (p i : ℕ) (x : X) (case : Stood xs p i x) → case.at ≢ p
  stood-apart xs p i x case = λ same. elim case.is [
    | inl below ↦ omega (arith, below.0, below.1, same)
    | inr behind ↦ omega (arith, behind.0, behind.1, same)
  ]

  pub remove-keeps : (xs : List X) (p i : ℕ) (x : X) → slice_get xs i ≡ Some x → i ≢ p
      → (k : ℕ) × (slice_get (remove xs p) k ≡ Some x)
  remove-keeps [] p i x at apart = absurd (cc at)
  remove-keeps (z ∷ xs) zero zero x at apart = absurd (apart refl)
  remove-keeps (z ∷ xs) zero (suc i) x at apart = (i, at)
  remove-keeps (z ∷ xs) (suc p) zero x at apart = (0, at)
  remove-keeps (z ∷ xs) (suc p) (suc i) x at apart =
      let rest = remove-keeps xs p i x at (λ e. apart (ap (λ n. suc n) e)) in (suc rest.0, rest.1)

  -- an element of a list that y was pushed on
  pub push-cases : (xs : List X) (y : X) (i : ℕ) (x : X) → slice_get (xs ++ y ∷ []) i ≡ Some x
      → (slice_get xs i ≡ Some x) ⊎ ((i ≡ length xs) × (x ≡ y))
  push-cases [] y zero x at = inr (refl, sym (some-same y x at))
  push-cases [] y (suc i) x at = absurd (cc at)
  push-cases (z ∷ xs) y zero x at = inl at
  push-cases (z ∷ xs) y (suc i) x at = elim (push-cases xs y i x at) [
    | inl kept ↦ inl kept
    | inr own ↦ inr (ap (λ n. suc n) own.0, own.1)
  ]

  pub push-keeps : (xs : List X) (y : X) (i : ℕ) (x : X) → slice_get xs i ≡ Some x → slice_get (xs ++ y ∷ []) i ≡ Some x
  push-keeps [] y i x at = absurd (cc at)
  push-keeps (z ∷ xs) y zero x at = at
  push-keeps (z ∷ xs) y (suc i) x at = push-keeps xs y i x at

  pub push-there : (xs : List X) (y : X) → slice_get (xs ++ y ∷ []) (length xs) ≡ Some y
  push-there [] y = refl
  push-there (z ∷ xs) y = push-there xs y

  -- an element stands between those before it and those behind it
  pub split-at : (xs : List X) (i : ℕ) (x : X) → slice_get xs i ≡ Some x
      → (before : List X) × ((behind : List X) × ((xs ≡ before ++ x ∷ behind) × (before ++ behind ≡ remove xs i)))
  split-at [] i x at = absurd (cc at)
  split-at (z ∷ xs) zero x at = ([], (xs, (ap (λ w. w ∷ xs) (some-same z x at), refl)))
  split-at (z ∷ xs) (suc i) x at =
      let rest = split-at xs i x at in
      (z ∷ rest.0, (rest.1.0, (ap (λ ys. z ∷ ys) rest.1.1.0, ap (λ ys. z ∷ ys) rest.1.1.1)))

sides-by : (i k : ℕ) (b : Bool) → nat_lt i k ≡ b → i ≤ k → (i < k) ⊎ (i ≡ k)
sides-by i k true test within = inl (ltb-true i k test)
sides-by i k false test within = let above : k ≤ i = ltb-false i k test in inr (omega arith)

-- a place that is not behind another is before it or the same
pub sides-of : (i k : ℕ) → i ≤ k → (i < k) ⊎ (i ≡ k)
sides-of i k within = sides-by i k (nat_lt i k) refl within

places-by : (k i : ℕ) (b : Bool) → nat_lt k i ≡ b → k ≢ i → (k < i) ⊎ (i < k)
places-by k i true test apart = inl (ltb-true k i test)
places-by k i false test apart = let above : i ≤ k = ltb-false k i test in inr (omega arith)

pub places : (k i : ℕ) → k ≢ i → (k < i) ⊎ (i < k)
places k i apart = places-by k i (nat_lt k i) refl apart
