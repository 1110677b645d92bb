-- Tests, choices and options.
use Rattle.std.proofs.Common.{◌≡◌, ℕ, ◌⊎◌, inl, inr, Bool, true, false, cond, ◌&&◌, ◌||◌, nat_eq, Some, None, refl, arith}
use Rattle.std.proofs.lemmas.Bool.Decides.{nat_tests}

-- a choice has a property that each side has under the test
pub by_test : {X : Type 0} (P : X → Type 0) (b : Bool) (x y : X) → (b ≡ true → P x) → (b ≡ false → P y) → P (cond b x y)
by_test P true x y on_true on_false = on_true refl
by_test P false x y on_true on_false = on_false refl

-- a case by a test
pub decide : {A : Type 0} (t : Bool) → (t ≡ true → A) → (t ≡ false → A) → A
decide {A = A} t on_true on_false = by_test (λ (_ : Bool). A) t true false on_true on_false

pub not_both : (t : Bool) → (t ≡ true → ⊥) → t ≡ false
not_both true h = absurd (h refl)
not_both false h = refl

pub false_not_true : (t : Bool) → t ≡ false → t ≡ true → ⊥
false_not_true t f g = cc

pub and_true : (a b : Bool) → (a && b) ≡ true → (a ≡ true) × (b ≡ true)
and_true true b h = (refl, h)
and_true false b h = absurd cc

pub and_false : (a : Bool) → (a && false) ≡ false
and_false true = refl
and_false false = refl

pub or_true : (a b : Bool) → (a || b) ≡ true → (a ≡ true) ⊎ (b ≡ true)
or_true true b h = inl refl
or_true false b h = inr h

pub or_right : (a : Bool) → (a || true) ≡ true
or_right true = refl
or_right false = refl

pub or_false : (a b : Bool) → (a || b) ≡ false → (a ≡ false) × (b ≡ false)
or_false true b h = absurd cc
or_false false b h = (refl, h)

-- a number that passes the test is the other
pub is_n : (b n : ℕ) → nat_eq b n ≡ true → b ≡ n
is_n b n h = grind (arith, nat_tests)

pub none_not_some : {X : Type 0} (x : X) → None ≡ Some x → ⊥
none_not_some x e = cc

pub some_is : {X : Type 0} (a c : X) → Some a ≡ Some c → a ≡ c
some_is a c e = cc
