-- What is found by at most so many steps back: as many as the place is enough.
use Rattle.std.proofs.Common.{◌≡◌, ℕ, zero, suc, ◌<◌, List, [], Bool, true, false, cond, nat_lt, refl, sym, ◌∙◌, arith, ltb-true}

-- what is looked at before a place alone is alike, where all before the place is
pub guarded : {X : Type 0} (f g : ℕ → List X) (k j : ℕ) → ((i : ℕ) → i < k → f i ≡ g i) → cond (nat_lt j k) (f j) [] ≡ cond (nat_lt j k) (g j) []
guarded {X} f g k j alike = by (nat_lt j k) refl
  where
    by : (b : Bool) → nat_lt j k ≡ b → cond b (f j) [] ≡ cond b (g j) []
    by true e = alike j (ltb-true j k e)
    by false e = refl

module _ {X : Type 0} (found : ℕ → ℕ → List X) (step : (ℕ → List X) → ℕ → List X) (one : (n k : ℕ) → found (suc n) k ≡ step (found n) k) (near : (f g : ℕ → List X) (k : ℕ) → ((j : ℕ) → j < k → f j ≡ g j) → step f k ≡ step g k) where
  pub enough : (n m k : ℕ) → k < n → k < m → found n k ≡ found m k
  enough zero m k low high = absurd (omega (arith, low))
  enough (suc n) zero k low high = absurd (omega (arith, high))
  enough (suc n) (suc m) k low high =
      one n k ∙ (near (found n) (found m) k (λ j before. enough n m j (omega (arith, before, low)) (omega (arith, before, high))) ∙ sym (one m k))

  -- what is found at a place, by what is found before it
  pub unfolds : (k : ℕ) → found (suc k) k ≡ step (λ j. found (suc j) j) k
  unfolds k = one k k ∙ near (found k) (λ j. found (suc j) j) k (λ j before. enough k (suc j) j before (omega arith))
