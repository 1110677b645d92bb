-- Whether one row of numbers begins another.
use Rattle.std.proofs.Common.{◌≡◌, ℕ, suc, zero, ◌+◌, ◌<◌, ◌≤◌, List, [], ◌∷◌, length, map, take, get_or, Bool, true, false, nat_eq, ◌&&◌, ◌||◌, refl, sym, ◌∙◌, ap, arith}
use Rattle.std.proofs.lemmas.Bool.{eqb-true}
use Rattle.std.proofs.lemmas.List.{take_all}
use lib.Pointwise.{pointwise}
use Rattle.herm_model.specs.Lists.{any_pass, same_numbers}
use Rattle.herm_model.specs.Paths.{is_at_or_below}
use Rattle.herm_check.proofs.Carried.{any-more}

none-below : (a : Bool) → (a && false) ≡ false
none-below true = refl
none-below false = refl

pub too-short : (p q : List ℕ) → length q < length p → is_at_or_below p q ≡ false
too-short [] q h = absurd (omega arith)
too-short (i ∷ p) [] h = refl
too-short (i ∷ p) (j ∷ q) h = ap (λ b. nat_eq i j && b) (too-short p q (omega arith)) ∙ none-below (nat_eq i j)

pub begins-by : (p q : List ℕ) → length p ≤ length q → pointwise nat_eq p (take (length p) q) ≡ is_at_or_below p q
begins-by [] q h = refl
begins-by (i ∷ p) [] h = absurd (omega arith)
begins-by (i ∷ p) (j ∷ q) h = ap (λ b. nat_eq i j && b) (begins-by p q (omega arith))

-- an element that passes the test stands in the list
pub some-pass : {X Y : Type 0} (test : Y → Bool) (view : X → Y) (xs : List X) (i : ℕ) (x : X) → i < length xs → x ≡ get_or xs i x → test (view x) ≡ true → any_pass test (map view xs) ≡ true
some-pass test view [] i x within is h = absurd (omega arith)
some-pass test view (y ∷ xs) zero x within is h = ap (λ b. b || any_pass test (map view xs)) (ap (λ z. test (view z)) (sym is) ∙ h)
some-pass test view (y ∷ xs) (suc i) x within is h = ap (λ b. test (view y) || b) (some-pass test view xs i x (omega arith) is h) ∙ either (test (view y))
  where
    either : (b : Bool) → (b || true) ≡ true
    either true = refl
    either false = refl

pub none-more : {X Y : Type 0} (test : Y → Bool) (view : X → Y) (xs : List X) (i : ℕ) (x : X) → i < length xs → x ≡ get_or xs i x → any_pass test (map view (take i xs)) ≡ false → test (view x) ≡ false → any_pass test (map view (take (i + 1) xs)) ≡ false
none-more test view xs i x within is none last = any-more test view xs i x within is ∙ (ap (λ b. b || test (view x)) none ∙ last)

pub none-pass : {X Y : Type 0} (test : Y → Bool) (view : X → Y) (xs : List X) (i : ℕ) → length xs ≤ i → any_pass test (map view (take i xs)) ≡ false → any_pass test (map view xs) ≡ false
none-pass test view xs i all none = ap (λ ys. any_pass test (map view ys)) (sym (take_all i xs all)) ∙ none

pub none-same : (xs : List ℕ) → nat_eq (length xs) 0 ≡ same_numbers xs []
none-same [] = refl
none-same (x ∷ xs) = by (nat_eq (suc (length xs)) 0) refl
  where
    by : (b : Bool) → nat_eq (suc (length xs)) 0 ≡ b → b ≡ false
    by true e = absurd (let none : suc (length xs) ≡ 0 = eqb-true (suc (length xs)) 0 e in omega (arith, none))
    by false e = refl
