-- What is held behind paths taken and facts made one after another.
use Rattle.std.proofs.Common.{◌≡◌, ℕ, ◌+◌, ◌<◌, List, [], ◌∷◌, ◌++◌, length, map, take, get_or, Bool, true, false, cond, not, ◌&&◌, ◌||◌, refl, sym, ◌∙◌, ap, suc, zero, Some, None, slice_get, subst}
use Rattle.std.proofs.lemmas.List.{map_more}
use Rattle.herm_model.specs.Lists.{any_pass}
use Rattle.herm_facts.specs.NumberSets.{has_number}
use Rattle.herm_check.specs.declared.label.Label.{Label}
use Rattle.herm_check.specs.Labelled.{is_reached}

pub any-append : {X : Type 0} (test : X → Bool) (xs : List X) (x : X) → any_pass test (xs ++ x ∷ []) ≡ (any_pass test xs || test x)
any-append test [] x = or_false (test x)
  where
    or_false : (b : Bool) → (b || false) ≡ b
    or_false true = refl
    or_false false = refl
any-append test (y ∷ xs) x = ap (λ b. test y || b) (any-append test xs x) ∙ assoc (test y)
  where
    assoc : (a : Bool) → (a || (any_pass test xs || test x)) ≡ ((a || any_pass test xs) || test x)
    assoc true = refl
    assoc false = refl

pub any-more : {X Y : Type 0} (test : Y → Bool) (view : X → Y) (xs : List X) (i : ℕ) (x : X) → i < length xs → x ≡ get_or xs i x → any_pass test (map view (take (i + 1) xs)) ≡ (any_pass test (map view (take i xs)) || test (view x))
any-more test view xs i x within e = ap (any_pass test) (map_more view xs i x within) ∙ (any-append test (map view (take i xs)) (view (get_or xs i x)) ∙ ap (λ y. any_pass test (map view (take i xs)) || test (view y)) (sym e))

pub killed-more : (a k b : Bool) → (not k && cond a false b) ≡ cond (a || k) false b
killed-more true true b = refl
killed-more true false b = refl
killed-more false true b = refl
killed-more false false b = refl

pub made-more : (a m b : Bool) → (m || (a || b)) ≡ ((a || m) || b)
made-more true true b = refl
made-more true false b = refl
made-more false true b = refl
made-more false false b = refl

pub behind-both : (made killed b : Bool) → (made || cond killed false b) ≡ cond made true (cond killed false b)
behind-both true killed b = refl
behind-both false killed b = refl

-- a blank label more
pub blank-reached : (ls : List Label) (l : Label) → l.reached ≡ false → ((i : ℕ) → is_reached ls i ≡ false) → (i : ℕ) → is_reached (ls ++ l ∷ []) i ≡ false
blank-reached [] l e h zero = e
blank-reached [] l e h (suc i) = refl
blank-reached (k ∷ ls) l e h zero = h zero
blank-reached (k ∷ ls) l e h (suc i) = blank-reached ls l e (λ j. h (suc j)) i

pub blank-none : (ls : List Label) (l : Label) → ((n : ℕ) → has_number l.held n ≡ false) → ((i : ℕ) (k : Label) (n : ℕ) → slice_get ls i ≡ Some k → has_number k.held n ≡ false) → (i : ℕ) (k : Label) (n : ℕ) → slice_get (ls ++ l ∷ []) i ≡ Some k → has_number k.held n ≡ false
blank-none [] l e h zero k n at = let same : l ≡ k = cc in subst (λ (x : Label). has_number x.held n ≡ false) same (e n)
blank-none [] l e h (suc i) k n at = absurd (let none : None ≡ Some k = at in let z : ⊥ = cc in z)
blank-none (j ∷ ls) l e h zero k n at = h zero k n at
blank-none (j ∷ ls) l e h (suc i) k n at = blank-none ls l e (λ j. h (suc j)) i k n at
