-- Places that are marked.
use Rattle.std.proofs.Common.{◌≡◌, ◌≢◌, ℕ, ◌<◌, ◌≤◌, List, length, Bool, true, false, ◌||◌, nat_eq, get_or, refl, sym, ap, ◌∙◌, arith}
use Rattle.std.proofs.Math.ListN.{set}
use Rattle.std.proofs.lemmas.List.{get_or-set_same, get_or-set_other}

pub or-none : (a : Bool) → (a || false) ≡ a
or-none true = refl
or-none false = refl

or-true : (a : Bool) → (a || true) ≡ true
or-true true = refl
or-true false = refl

pub mark_set : (xs : List Bool) (n i : ℕ) → n < length xs → get_or (set xs n true) i false ≡ (get_or xs i false || nat_eq n i)
mark_set xs n i h = by (nat_eq n i) refl
  where
    equal : (n i : ℕ) → nat_eq n i ≡ true → n ≡ i
    equal n i e = grind (arith, e)

    apart : (n i : ℕ) → nat_eq n i ≡ false → i ≢ n
    apart n i e = grind (arith, e)

    by : (b : Bool) → nat_eq n i ≡ b → get_or (set xs n true) i false ≡ (get_or xs i false || nat_eq n i)
    by true e = ap (λ k. get_or (set xs n true) k false) (sym (equal n i e)) ∙ (get_or-set_same xs n true false h ∙ sym (ap (λ b. get_or xs i false || b) e ∙ or-true (get_or xs i false)))
    by false e = get_or-set_other xs n i true false (apart n i e) ∙ sym (ap (λ b. get_or xs i false || b) e ∙ or-none (get_or xs i false))

pub mark_none : (xs : List Bool) (n i : ℕ) → length xs ≤ n → i < length xs → get_or xs i false ≡ (get_or xs i false || nat_eq n i)
mark_none xs n i h k = sym (ap (λ b. get_or xs i false || b) (apart n i (omega (arith, h, k))) ∙ or-none (get_or xs i false))
  where
    apart : (n i : ℕ) → i < n → nat_eq n i ≡ false
    apart n i h = grind (arith, h)
