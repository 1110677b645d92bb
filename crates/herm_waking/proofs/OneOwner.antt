-- In a sound state two processes do not have an inport of one port.
use Rattle.std.proofs.Common.{◌≡◌, ℕ, zero, suc, ◌+◌, ◌≤◌, List, [], ◌∷◌, Bool, true, false, Some, slice_get, refl, ap, arith}
use Rattle.herm_model.specs.Lists.{IsIn, total}
use Rattle.herm_model.specs.Values.{Name, an_inport}
use Rattle.herm_model.proofs.Options.{some-injective, none-not_some}
use Rattle.herm_journal.proofs.Rising.{same-true}
use Rattle.herm_system.specs.Machines.{Machine}
use Rattle.herm_system.specs.Kinds.{kinds_by, unfinalised, is_inport_of, is_open_port}
use Rattle.herm_system.specs.Sound.{one_if, IsSoundWith}
use Rattle.herm_system.specs.Summary.{how_many}
use Rattle.herm_system.specs.Systems.{System, numbered_from_one, console_port}
use Rattle.herm_sound.proofs.Counted.{of_cell, of_process, queued, unfinalised-parts}
use Rattle.herm_sound.proofs.OpenCalls.{counted, only-one}
use Rattle.herm_sound.proofs.TypedCells.{in-held}

one-in : {X : Type 0} (f : X → ℕ) (xs : List X) (i : ℕ) (x : X) → slice_get xs i ≡ Some x → f x ≤ total f xs
one-in f [] i x e = none-not_some e
one-in f (z ∷ xs) zero x e = omega (arith, ap f (some-injective e))
one-in f (z ∷ xs) (suc i) x e = omega (arith, one-in f xs i x e)

-- two elements at different numbers are both in the sum
two-in : {X : Type 0} (f : X → ℕ) (xs : List X) (i j : ℕ) (x y : X) → (i ≡ j → ⊥) → slice_get xs i ≡ Some x → slice_get xs j ≡ Some y → f x + f y ≤ total f xs
two-in f [] i j x y apart a b = none-not_some a
two-in f (z ∷ xs) zero zero x y apart a b = absurd (apart refl)
two-in f (z ∷ xs) zero (suc j) x y apart a b = omega (arith, ap f (some-injective a), one-in f xs j y b)
two-in f (z ∷ xs) (suc i) zero x y apart a b = omega (arith, ap f (some-injective b), one-in f xs i x a)
two-in f (z ∷ xs) (suc i) (suc j) x y apart a b = omega (arith, two-in f xs i j x y (λ e. apart (ap suc e)) a b)

two-from_one : {X : Type 0} (f : X → ℕ) (xs : List X) (p q : ℕ) (x y : X) → (p ≡ q → ⊥) → numbered_from_one p xs ≡ Some x → numbered_from_one q xs ≡ Some y → f x + f y ≤ total f xs
two-from_one f xs zero q x y apart a b = none-not_some a
two-from_one f xs (suc i) zero x y apart a b = none-not_some b
two-from_one f xs (suc i) (suc j) x y apart a b = two-in f xs i j x y (λ e. apart (ap suc e)) a b

one-at_most : (b : Bool) → one_if b ≤ 1
one-at_most true = omega arith
one-at_most false = omega arith

pub one-owner : {P : Type 0} (machine : Machine Name P) (Is : P → Type 0) (types : List ℕ) (s : System P) → IsSoundWith machine Is types s → (n p q : ℕ) (x y : P) → numbered_from_one p s.processes ≡ Some x → numbered_from_one q s.processes ≡ Some y
    → IsIn (an_inport n) (kinds_by machine x) → IsIn (an_inport n) (kinds_by machine y) → (p ≡ q → ⊥) → ⊥
one-owner machine Is types s sound n p q x y is is' first second apart =
    let a = counted (is_inport_of n) (an_inport n) (kinds_by machine x) first (same-true n) in
    let b = counted (is_inport_of n) (an_inport n) (kinds_by machine y) second (same-true n) in
    let both = two-from_one (of_process (is_inport_of n) machine) s.processes p q x y apart is is' in
    let all : how_many (is_inport_of n) (unfinalised machine s) ≡ of_cell (is_inport_of n) console_port + total (of_process (is_inport_of n) machine) s.processes + queued (is_inport_of n) machine s = unfinalised-parts (is_inport_of n) machine s in
    let least = one-at_most (is_open_port s n) in
    absurd (omega (arith, a.1, b.1, both, all, sound.ports.inports n, least))

-- a port whose inport a process has is open
pub inport-open : {P : Type 0} (machine : Machine Name P) (Is : P → Type 0) (types : List ℕ) (s : System P) → IsSoundWith machine Is types s → (n q : ℕ) (x : P) → numbered_from_one q s.processes ≡ Some x → IsIn (an_inport n) (kinds_by machine x) → is_open_port s n ≡ true
inport-open machine Is types s sound n q x is member =
    let some = counted (is_inport_of n) (an_inport n) (unfinalised machine s) (in-held machine types s (an_inport n) q x is member) (same-true n) in
    only-one 0 some.0 (how_many (is_inport_of n) (unfinalised machine s)) (is_open_port s n) some.1 (omega (arith, sound.ports.inports n))
