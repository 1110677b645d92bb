-- Lists of which in turn the next entry is taken.
use Rattle.std.proofs.Common.{◌≡◌, ℕ, zero, suc, ◌+◌, ◌-◌, ◌%◌, ◌<◌, ◌≤◌, List, [], ◌∷◌, ◌++◌, map, take, drop, length, get_or, replicate, refl, sym, ap, subst, ◌∙◌, arith}
use Rattle.std.proofs.Math.ListN.{set}
use Rattle.std.proofs.lemmas.List.{append_assoc, append-nil, map-append}
use Rattle.herm_events.specs.declared.entry.Entry.{Entry}
use Rattle.herm_report.specs.Turns.{in_turn, list_at, without_first}

-- entries that stand in order in one list
pub in-turn-one : (es : List Entry) → in_turn (replicate (length es) 1) (es ∷ []) ≡ es
in-turn-one [] = refl
in-turn-one (e ∷ es) = ap (λ l. e ∷ l) (in-turn-one es)

pub no-entry : (es : List Entry) → length es ≡ 0 → es ≡ []
no-entry [] none = refl
no-entry (e ∷ es) none = absurd (omega (arith, none))

-- ---- the list of a number

module _ {Q : Type 0} (f : Q → List Entry) where
  pub none-at : (qs : List Q) (n : ℕ) → length qs < n → list_at (map f qs) n ≡ []
  none-at qs zero far = refl
  none-at [] (suc n) far = refl
  none-at (q ∷ qs) (suc zero) far = absurd (omega (arith, far))
  none-at (q ∷ qs) (suc (suc n)) far = none-at qs (suc n) (omega (arith, far))

  pub same-without : (qs : List Q) (n : ℕ) → list_at (map f qs) n ≡ [] → without_first (map f qs) n ≡ map f qs
  same-without qs zero none = refl
  same-without [] (suc n) none = refl
  same-without (q ∷ qs) (suc zero) none = ap (λ l. drop 1 l ∷ map f qs) none ∙ ap (λ l. l ∷ map f qs) (sym none)
  same-without (q ∷ qs) (suc (suc n)) none = ap (λ ls. f q ∷ ls) (same-without qs (suc n) none)

  list-there : (qs : List Q) (i : ℕ) (d : Q) → i < length qs → list_at (map f qs) (suc i) ≡ f (get_or qs i d)
  list-there [] i d below = absurd (omega (arith, below))
  list-there (q ∷ qs) zero d below = refl
  list-there (q ∷ qs) (suc i) d below = list-there qs i d (omega (arith, below))

  without-there : (qs : List Q) (i : ℕ) (d r : Q) → i < length qs → f r ≡ drop 1 (f (get_or qs i d)) → map f (set qs i r) ≡ without_first (map f qs) (suc i)
  without-there [] i d r below rest = absurd (omega (arith, below))
  without-there (q ∷ qs) zero d r below rest = ap (λ l. l ∷ map f qs) rest
  without-there (q ∷ qs) (suc i) d r below rest = ap (λ ls. f q ∷ ls) (without-there qs i d r (omega (arith, below)) rest)

  pub list-is : (qs : List Q) (n i : ℕ) (q : Q) → n ≡ suc i → i < length qs → q ≡ get_or qs i q → list_at (map f qs) n ≡ f q
  list-is qs n i q is below there = ap (list_at (map f qs)) is ∙ list-there qs i q below ∙ ap f (sym there)

  pub without-is : (qs : List Q) (n i : ℕ) (q r : Q) → n ≡ suc i → i < length qs → q ≡ get_or qs i q → f r ≡ drop 1 (f q) → map f (set qs i r) ≡ without_first (map f qs) n
  without-is qs n i q r is below there rest = without-there qs i q r below (rest ∙ ap (λ x. drop 1 (f x)) there) ∙ sym (ap (without_first (map f qs)) is)
