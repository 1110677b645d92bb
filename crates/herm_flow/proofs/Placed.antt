-- Numbers that stand at the places that a table has for them.
use Rattle.std.proofs.Common.{◌≡◌, ◌∷◌, [], ◌++◌, ℕ, List, zero, suc, ◌⊎◌, Bool, true, false, cond, nat_eq, length, Option, Some, None, inl, inr, slice_get, refl, sym, ap, subst, ◌∙◌, ⊎_elim}
use Rattle.std.proofs.lemmas.Bool.{eqb-true, eq-eqb, eqb-false}
use Rattle.herm_model.specs.Lists.{IsIn, map_or}
use Rattle.herm_model.proofs.Lists.{not_true, in-append_cases}
use Rattle.herm_model.proofs.FactTests.{got-IsIn}
use Rattle.herm_flow.proofs.Covering.{not-both}
use Rattle.herm_flow.specs.NumberTables.{at_number}
use Rattle.herm_flow.specs.Touched.{has_place, HavePlaces}

pub placed-in : (places : List (Option ℕ)) (ns : List ℕ) (n : ℕ) → has_place places ns n ≡ true → IsIn n ns
placed-in places ns n h = by (at_number places n) h
  where
    there : (i : ℕ) (o : Option ℕ) → slice_get ns i ≡ o → map_or false (nat_eq n) o ≡ true → IsIn n ns
    there i None e h = not_true h
    there i (Some m) e h = subst (λ k. IsIn k ns) (sym (eqb-true n m h)) (got-IsIn ns i m e)

    by : (o : Option ℕ) → map_or false (λ i. map_or false (nat_eq n) (slice_get ns i)) o ≡ true → IsIn n ns
    by None h = not_true h
    by (Some i) h = there i (slice_get ns i) refl h

-- ---- a number behind them

got-left : (n i : ℕ) (ns xs : List ℕ) → map_or false (nat_eq n) (slice_get ns i) ≡ true → map_or false (nat_eq n) (slice_get (ns ++ xs) i) ≡ true
got-left n i [] xs h = not_true h
got-left n zero (m ∷ ns) xs h = h
got-left n (suc i) (m ∷ ns) xs h = got-left n i ns xs h

got-last : (n : ℕ) (ns : List ℕ) → slice_get (ns ++ n ∷ []) (length ns) ≡ Some n
got-last n [] = refl
got-last n (m ∷ ns) = got-last n ns

pub placed-more : (places more : List (Option ℕ)) (ns new : List ℕ) (number : ℕ) → has_place places ns number ≡ false → ((m : ℕ) → at_number more m ≡ cond (nat_eq number m) (Some (length ns)) (at_number places m)) → new ≡ ns ++ number ∷ [] → HavePlaces places ns → HavePlaces more new
placed-more places more ns new number not entries is have n m = subst (λ xs. has_place more xs n ≡ true) (sym is) (by (in-append_cases n ns (number ∷ []) (subst (IsIn n) is m)))
  where
    Found : Option ℕ → Type 0
    Found o = map_or false (λ i. map_or false (nat_eq n) (slice_get (ns ++ number ∷ []) i)) o ≡ true

    wider : (o : Option ℕ) → map_or false (λ i. map_or false (nat_eq n) (slice_get ns i)) o ≡ true → Found o
    wider None h = not_true h
    wider (Some i) h = got-left n i ns (number ∷ []) h

    old : IsIn n ns → (b : Bool) → nat_eq number n ≡ b → Found (at_number more n)
    old i true e = not-both (has_place places ns number) (subst (λ x. has_place places ns x ≡ true) (sym (eqb-true number n e)) (have n i)) not
    old i false e = subst Found (sym (entries n ∙ ap (λ b. cond b (Some (length ns)) (at_number places n)) e)) (wider (at_number places n) (have n i))

    by : IsIn n ns ⊎ IsIn n (number ∷ []) → Found (at_number more n)
    by (inl i) = old i (nat_eq number n) refl
    by (inr (inl e)) = subst Found (sym (entries n ∙ ap (λ b. cond b (Some (length ns)) (at_number places n)) (eq-eqb number n (sym e)))) (ap (map_or false (nat_eq n)) (got-last number ns) ∙ eq-eqb n number e)
    by (inr (inr x)) = absurd x
