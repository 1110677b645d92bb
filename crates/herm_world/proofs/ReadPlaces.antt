-- What is read of the vectors of a world, by number.
use Rattle.std.proofs.Common.{◌≡◌, ℕ, zero, suc, ◌-◌, ◌<◌, ◌≤◌, List, [], ◌∷◌, length, Bool, true, false, ◌||◌, Option, Some, None, get_or, refl, sym, ap, subst, ◌∙◌, arith, true≢false}
use Rattle.std.specs.Prelude.{slice_get, slice_set, IfSome}
use Rattle.std.proofs.lemmas.Option.{slice_get_read}
use Rattle.herm_model.proofs.Options.{none-not_some}
use Rattle.herm_model.specs.Lists.{any_pass, list_of}
use Rattle.herm_system.specs.Systems.{numbered_from_one, set_from_one}
use Rattle.herm_queue.specs.PortStates.{PortState}
use Rattle.herm_queue.specs.ReplyStates.{ReplyState}
use Rattle.herm_world.specs.Places.{Places, holds_some, is_filled, is_answered}
use Rattle.herm_world.proofs.ListCases.{set-there}

pub read-there : {X : Type 0} (xs : List X) (i : ℕ) (x : X) → i < length xs → x ≡ get_or xs i x → slice_get xs i ≡ Some x
read-there xs i x lt e = slice_get_read xs (length xs) i x refl lt e

pub read-from-one : {X : Type 0} (xs : List X) (p : ℕ) (x : X) → 1 ≤ p → p ≤ length xs → x ≡ get_or xs (p - 1) x → numbered_from_one p xs ≡ Some x
read-from-one xs zero x one le e = absurd (omega (arith, one))
read-from-one xs (suc i) x one le e = read-there xs i x (omega (arith, le)) (e ∙ ap (λ j. get_or xs j x) (omega arith))

pub set-from-one : {X : Type 0} (xs : List X) (p : ℕ) (x : X) → 1 ≤ p → set_from_one p x xs ≡ slice_set xs (p - 1) x
set-from-one xs zero x one = absurd (omega (arith, one))
set-from-one xs (suc i) x one = ap (λ j. slice_set xs j x) (omega arith)

-- who is put in the place of another has its number
pub put-from-one : {X : Type 0} (xs : List X) (p : ℕ) (x y : X) → numbered_from_one p xs ≡ Some x → numbered_from_one p (slice_set xs (p - 1) y) ≡ Some y
put-from-one xs zero x y e = none-not_some e
put-from-one xs (suc i) x y e = let same : suc i - 1 ≡ i = omega arith in subst (λ j. slice_get (slice_set xs j y) i ≡ Some y) (sym same) (set-there xs i x y e)

get-within : {X : Type 0} (xs : List X) (i : ℕ) (x : X) → slice_get xs i ≡ Some x → i < length xs
get-within [] i x e = none-not_some e
get-within (y ∷ xs) zero x e = omega arith
get-within (y ∷ xs) (suc i) x e = let h = get-within xs i x e in omega (arith, h)

-- the one that passes a test is there
passed-there : {X : Type 0} (test : X → Bool) (o : Option X) → any_pass test (list_of (λ x. x ∷ []) o) ≡ true → (x : X) × (o ≡ Some x) × (test x ≡ true)
passed-there test None e = absurd (true≢false (sym e))
passed-there test (Some x) e = (x, refl, by (test x) e)
  where
    by : (b : Bool) → (b || false) ≡ true → b ≡ true
    by true e = refl
    by false e = e

pub filled-within : (s : Places) (n : ℕ) → is_filled s n ≡ true → n < length s.ports
filled-within s n e = let h = passed-there (λ (p : PortState). holds_some p.held.queue) (slice_get s.ports n) e in get-within s.ports n h.0 h.1

pub answered-within : (s : Places) (p : ℕ) → is_answered s p ≡ true → (1 ≤ p) × (p ≤ length s.replies)
answered-within s zero e = absurd (true≢false (sym e))
answered-within s (suc i) e = let h = passed-there (λ (r : ReplyState). holds_some r.waiting) (slice_get s.replies i) e in let lt = get-within s.replies i h.0 h.1 in (omega arith, omega (arith, lt))

pub filled-not_empty : {A : Type 0} (s : Places) (n : ℕ) (p : PortState) → is_filled s n ≡ true → slice_get s.ports n ≡ Some p → p.held.queue ≡ [] → A
filled-not_empty s n p e there empty = absurd (true≢false (sym e ∙ ap (λ o. any_pass (λ (p : PortState). holds_some p.held.queue) (list_of (λ p. p ∷ []) o)) there ∙ ap (λ q. holds_some q || false) empty))

pub answered-not_empty : {A : Type 0} (s : Places) (p : ℕ) (r : ReplyState) → is_answered s p ≡ true → numbered_from_one p s.replies ≡ Some r → r.waiting ≡ [] → A
answered-not_empty s p r e there empty = absurd (true≢false (sym e ∙ ap (λ o. any_pass (λ (r : ReplyState). holds_some r.waiting) (list_of (λ r. r ∷ []) o)) there ∙ ap (λ q. holds_some q || false) empty))

-- what is so of the value of an option
pub if-some : {X : Type 0} (P : X → Type 0) (o : Option X) (x : X) → o ≡ Some x → IfSome o P → P x
if-some P o x e h = subst (λ o. IfSome o P) e h

-- who is there by its number, from 1 on
pub number-in : {X : Type 0} (xs : List X) (p : ℕ) (x : X) → numbered_from_one p xs ≡ Some x → (1 ≤ p) × (p ≤ length xs)
number-in xs zero x e = none-not_some e
number-in xs (suc i) x e = let h = get-within xs i x e in (omega arith, omega (arith, h))
