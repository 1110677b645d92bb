-- What is known of the tokens before a step that leads on.
use Rattle.std.proofs.Common.{◌≡◌, Bool, true, false, ◌&&◌, if◌then◌else◌, Option, Some, None, refl, subst}
use Rattle.herm_parser.specs.Along.{◌>>=◌}
use Rattle.herm_compile.proofs.Leads.{Tokens, Leads, plain}

-- Where a step leads on, this is known of the tokens before it.
pub record Told {A B : Type 0} (before : A → Tokens) (past : A → Option B) (P : Tokens → Type 0) : Type 0 where
  pub known : (a : A) (b : B) → past a ≡ Some b → P (before a)

abbrev pub Known : (Tokens → Option Tokens) → (Tokens → Type 0) → Type 0
Known past P = Told plain past P

split : {A B : Type 0} → (first : Option A) (q : A → Option B) (b : B) → (first >>= q) ≡ Some b → (a : A) × (first ≡ Some a) × (q a ≡ Some b)
split None q b e = absurd (cc)
split (Some a) q b e = (a, refl, e)

pub first_known : {A B C : Type 0} → {before : A → Tokens} → {p : A → Option B} → {P : Tokens → Type 0} → (q : B → Option C) → Told before p P → Told before (λ a. p a >>= q) P
first_known {A} {B} {C} {before} {p} {P} q x = record { known = λ a c e. let s = split (p a) q c e in x.known a s.0 s.1 }

pub then_known : {A B C : Type 0} → {before : A → Tokens} → {middle : B → Tokens} → {p : A → Option B} → {q : B → Option C} → {f : Tokens → Tokens} → {P : Tokens → Type 0} →
    Leads before middle p f → Told middle q P → Told before (λ a. p a >>= q) (λ t. P (f t))
then_known {A} {B} {C} {before} {middle} {p} {q} {f} {P} x y = record { known = λ a c e. let s = split (p a) q c e in subst P (x.leads a s.0 s.1) (y.known s.0 c s.2) }

pub both_known : {A B C : Type 0} → {before : A → Tokens} → {middle : B → Tokens} → {p : A → Option B} → {q : B → Option C} → {f : Tokens → Tokens} → {P Q : Tokens → Type 0} →
    Leads before middle p f → Told before p P → Told middle q Q → Told before (λ a. p a >>= q) (λ t. P t × Q (f t))
both_known {A} {B} {C} {before} {middle} {p} {q} {f} {P} {Q} g x y =
    record { known = λ a c e. let s = split (p a) q c e in (x.known a s.0 s.1, subst Q (g.leads a s.0 s.1) (y.known s.0 c s.2)) }

pub known_so : {A B : Type 0} → {before : A → Tokens} → {p : A → Option B} → {P Q : Tokens → Type 0} → ((t : Tokens) → P t → Q t) → Told before p P → Told before p Q
known_so {A} {B} {before} so x = record { known = λ a b e. so (before a) (x.known a b e) }

pub both_true : (x y : Bool) → (x && y) ≡ true → (x ≡ true) × (y ≡ true)
both_true true y e = (refl, e)
both_true false y e = absurd (cc)

-- what is taken where a test holds is taken only there
pub taken_true : {X : Type 0} (test : Bool) (x y : X) → (if test then Some x else None) ≡ Some y → test ≡ true
taken_true true x y e = refl
taken_true false x y e = absurd (cc)
