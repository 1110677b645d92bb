-- Numbers put in order.
use Rattle.std.proofs.Common.{◌≡◌, ℕ, ◌<◌, ◌≤◌, List, [], ◌∷◌, Bool, true, false, cond, nat_lt, nat_eq, refl, ◌∙◌, arith, inl, inr, ◌⊎◌, ltb-true, ltb-false}
use Rattle.std.proofs.lemmas.Bool.{eqb-false, eqb-true}
use Rattle.herm_model.specs.Lists.{IsIn}
use Rattle.herm_model.specs.Outcomes.{with_number, rising}
use Rattle.herm_model.specs.laws.FlowLaws.{Rise}

-- ---- a number put in its place

with_number-IsIn : (n m : ℕ) (ns : List ℕ) → IsIn m (with_number n ns) → (m ≡ n) ⊎ IsIn m ns
with_number-IsIn n m [] (inl e) = inl e
with_number-IsIn n m [] (inr h) = absurd h
with_number-IsIn n m (k ∷ ns) h = go (nat_lt n k) (nat_eq n k) (with_number-IsIn n m ns) h
  where
    later : (m ≡ n) ⊎ IsIn m ns → (m ≡ n) ⊎ IsIn m (k ∷ ns)
    later (inl e) = inl e
    later (inr r) = inr (inr r)

    go : (b c : Bool) → (IsIn m (with_number n ns) → (m ≡ n) ⊎ IsIn m ns) → IsIn m (cond b (n ∷ k ∷ ns) (cond c (k ∷ ns) (k ∷ with_number n ns))) → (m ≡ n) ⊎ IsIn m (k ∷ ns)
    go true c again (inl e) = inl e
    go true c again (inr r) = inr r
    go false true again r = inr r
    go false false again (inl e) = inr (inl e)
    go false false again (inr r) = later (again r)

with_number-Rise : (n : ℕ) (ns : List ℕ) → Rise ns → Rise (with_number n ns)
with_number-Rise n [] h = ((λ m k. absurd k), tt)
with_number-Rise n (k ∷ ns) h = go (nat_lt n k) (nat_eq n k) refl refl (with_number-Rise n ns h.1)
  where
    below : n < k → (m : ℕ) → IsIn m (k ∷ ns) → n < m
    below lt m (inl e) = omega arith
    below lt m (inr r) = let more = h.0 m r in omega (arith, more)

    above : k < n → (m : ℕ) → (m ≡ n) ⊎ IsIn m ns → k < m
    above lt m (inl e) = omega arith
    above lt m (inr r) = h.0 m r

    go : (b c : Bool) → nat_lt n k ≡ b → nat_eq n k ≡ c → Rise (with_number n ns) → Rise (cond b (n ∷ k ∷ ns) (cond c (k ∷ ns) (k ∷ with_number n ns)))
    go true c lt eq again = (below (ltb-true n k lt), h)
    go false true lt eq again = h
    go false false lt eq again =
        let le : k ≤ n = ltb-false n k lt in
        let apart : n ≡ k → ⊥ = eqb-false n k eq in
        let less : k < n = omega (arith, le, apart) in
        ((λ m r. above less m (with_number-IsIn n m ns r)), again)

in-with_number : (n m : ℕ) (ns : List ℕ) → (m ≡ n) ⊎ IsIn m ns → IsIn m (with_number n ns)
in-with_number n m [] (inl e) = inl e
in-with_number n m [] (inr h) = absurd h
in-with_number n m (k ∷ ns) h = go (nat_lt n k) (nat_eq n k) refl (in-with_number n m ns) h
  where
    go : (b c : Bool) → nat_eq n k ≡ c → ((m ≡ n) ⊎ IsIn m ns → IsIn m (with_number n ns)) → (m ≡ n) ⊎ IsIn m (k ∷ ns) → IsIn m (cond b (n ∷ k ∷ ns) (cond c (k ∷ ns) (k ∷ with_number n ns)))
    go true c e again (inl h) = inl h
    go true c e again (inr h) = inr h
    go false true e again (inl h) = inl (h ∙ eqb-true n k e)
    go false true e again (inr h) = h
    go false false e again (inl h) = inr (again (inl h))
    go false false e again (inr (inl h)) = inl h
    go false false e again (inr (inr h)) = inr (again (inr h))

pub rising-Rise : (ns : List ℕ) → Rise (rising ns)
rising-Rise [] = tt
rising-Rise (n ∷ ns) = with_number-Rise n (rising ns) (rising-Rise ns)

pub rising-IsIn : (m : ℕ) (ns : List ℕ) → IsIn m (rising ns) → IsIn m ns
rising-IsIn m [] h = absurd h
rising-IsIn m (n ∷ ns) h = by (rising-IsIn m ns) (with_number-IsIn n m (rising ns) h)
  where
    by : (IsIn m (rising ns) → IsIn m ns) → (m ≡ n) ⊎ IsIn m (rising ns) → IsIn m (n ∷ ns)
    by again (inl e) = inl e
    by again (inr r) = inr (again r)

pub in-rising : (m : ℕ) (ns : List ℕ) → IsIn m ns → IsIn m (rising ns)
in-rising m [] h = absurd h
in-rising m (n ∷ ns) (inl e) = in-with_number n m (rising ns) (inl e)
in-rising m (n ∷ ns) (inr h) = in-with_number n m (rising ns) (inr (in-rising m ns h))
