-- Rising numbers with one more, and numbers in order.
use Rattle.std.proofs.Common.{◌≡◌, ℕ, zero, suc, ◌+◌, ◌<◌, List, [], ◌∷◌, ◌++◌, map, length, take, drop, get_or, Bool, true, false, cond, nat_eq, nat_lt, refl, sym, ap, subst, ◌∙◌, arith, true≢false}
use Rattle.herm_base.specs.declared.numbers.ExcNo.{ExcNo}
use Rattle.herm_model.specs.Lists.{range}
use Rattle.std.proofs.lemmas.List.{map-append}
use Rattle.herm_model.specs.Outcomes.{Outcome, arm, with_number}
use Rattle.herm_model.proofs.Deciding.{numbers-decide, below-decides}

-- a number that is first stays
with-first : (n : ℕ) (ns : List ℕ) → with_number n (n ∷ ns) ≡ n ∷ ns
with-first n ns = by (nat_lt n n) (nat_eq n n) refl ((numbers-decide n n).1 refl)
  where
    by : (a b : Bool) → nat_lt n n ≡ a → b ≡ true → cond a (n ∷ n ∷ ns) (cond b (n ∷ ns) (n ∷ with_number n ns)) ≡ n ∷ ns
    by true b e f = let k : n < n = (below-decides n n).0 e in absurd (omega arith)
    by false true e f = refl
    by false false e f = absurd (true≢false (sym f))

-- a number that stands at a place is one of them
pub number-there : (xs : List ExcNo) (i n : ℕ) (d : ExcNo) → i < length xs → n ≡ (get_or xs i d).0 → map (λ n. n.0) (take i xs) ++ with_number n (map (λ n. n.0) (drop i xs)) ≡ map (λ n. n.0) xs
number-there [] i n d h e = absurd (omega arith)
number-there (x ∷ xs) zero n d h e = subst (λ m. with_number m (map (λ n. n.0) (x ∷ xs)) ≡ map (λ n. n.0) (x ∷ xs)) (sym e) (with-first x.0 (map (λ n. n.0) xs))
number-there (x ∷ xs) (suc i) n d h e = ap (x.0 ∷◌) (number-there xs i n d (omega arith) e)

-- numbers in order end with the last one
pub range-end : (k n : ℕ) → range k (suc n) ≡ range k n ++ ((k + n) ∷ [])
range-end k zero = ap (λ m. m ∷ []) (omega arith)
range-end k (suc n) =
    let e : suc k + n ≡ k + suc n = omega arith in
    ap (k ∷◌) (range-end (suc k) n ∙ ap (λ m. range (suc k) n ++ (m ∷ [])) e)

-- the arms in order end with the last one
pub arms-next : (os : List Outcome) (i : ℕ) → os ≡ map arm (range 0 i) → os ++ (arm i ∷ []) ≡ map arm (range 0 (i + 1))
arms-next os i e =
    let a : i + 1 ≡ suc i = omega arith in
    let b : 0 + i ≡ i = omega arith in
    ap (λ xs. xs ++ (arm i ∷ [])) e
    ∙ (sym (map-append arm (range 0 i) (i ∷ []))
    ∙ ap (map arm) (ap (λ m. range 0 i ++ (m ∷ [])) (sym b) ∙ (sym (range-end 0 i) ∙ ap (range 0) (sym a))))
