-- Numbers that are marked.
use Rattle.std.proofs.Common.{◌≡◌, ◌≤◌, ◌<◌, ℕ, zero, suc, List, [], ◌∷◌, length, Bool, true, false, ◌||◌, nat_eq, slice_set, inl, inr, refl, sym, ap, subst, ◌∙◌, arith}
use Rattle.std.proofs.lemmas.Bool.{eq-eqb, eqb-true, eqb-false}
use Rattle.std.proofs.lemmas.Option.{slice_get_past}
use Rattle.herm_model.specs.Lists.{IsIn, any_pass, map_or}
use Rattle.herm_model.proofs.Lists.{or-left, or-right}
use Rattle.herm_flow.specs.declared.onward.OnwardEdge.{OnwardEdge}
use Rattle.herm_flow.specs.Listed.{is_marked, is_named}

with-true : (b : Bool) → (b || true) ≡ true
with-true true = refl
with-true false = refl

pub with-false : (b : Bool) → b ≡ (b || false)
with-false true = refl
with-false false = refl

set-same : (marks : List Bool) (n : ℕ) → n < length marks → is_marked (slice_set marks n true) n ≡ true
set-same [] n h = absurd (omega (arith, h))
set-same (b ∷ marks) zero h = refl
set-same (b ∷ marks) (suc n) h = set-same marks n (omega (arith, h))

set-other : (marks : List Bool) (n i : ℕ) → (i ≡ n → ⊥) → is_marked (slice_set marks n true) i ≡ is_marked marks i
set-other [] n i h = refl
set-other (b ∷ marks) zero zero h = absurd (h refl)
set-other (b ∷ marks) zero (suc i) h = refl
set-other (b ∷ marks) (suc n) zero h = refl
set-other (b ∷ marks) (suc n) (suc i) h = set-other marks n i (λ e. h (ap suc e))

pub marked_set : (marks : List Bool) (n i : ℕ) → n < length marks → is_marked (slice_set marks n true) i ≡ (is_marked marks i || nat_eq i n)
marked_set marks n i within = by (nat_eq i n) refl
  where
    by : (t : Bool) → nat_eq i n ≡ t → is_marked (slice_set marks n true) i ≡ (is_marked marks i || t)
    by true e = ap (is_marked (slice_set marks n true)) (eqb-true i n e) ∙ (set-same marks n within ∙ sym (with-true (is_marked marks i)))
    by false e = set-other marks n i (eqb-false i n e) ∙ with-false (is_marked marks i)

-- beyond the marks all are
pub marked_beyond : (marks : List Bool) (n i : ℕ) → length marks ≤ n → is_marked marks i ≡ (is_marked marks i || nat_eq i n)
marked_beyond marks n i beyond = by (nat_eq i n) refl
  where
    by : (t : Bool) → nat_eq i n ≡ t → is_marked marks i ≡ (is_marked marks i || t)
    by true e = ap (is_marked marks) (eqb-true i n e) ∙ (ap (map_or true (λ b. b)) (slice_get_past marks n beyond) ∙ sym (with-true (is_marked marks i)))
    by false e = with-false (is_marked marks i)

-- what is among numbers is found there
pub told-there : (i : ℕ) (is : List ℕ) → IsIn i is → any_pass (nat_eq i) is ≡ true
told-there i [] h = absurd h
told-there i (k ∷ is) (inl e) = or-left (nat_eq i k) (any_pass (nat_eq i) is) (subst (λ n. nat_eq i n ≡ true) e (eq-eqb i i refl))
told-there i (k ∷ is) (inr h) = or-right (nat_eq i k) (any_pass (nat_eq i) is) (told-there i is h)

pub named-there : (es : List OnwardEdge) (e : OnwardEdge) (i : ℕ) → IsIn e es → IsIn i e.makes.items → is_named es i ≡ true
named-there [] e i m k = absurd m
named-there (d ∷ es) e i (inl same) k = or-left (any_pass (nat_eq i) d.makes.items) (is_named es i) (subst (λ (x : OnwardEdge). any_pass (nat_eq i) x.makes.items ≡ true) same (told-there i e.makes.items k))
named-there (d ∷ es) e i (inr m) k = or-right (any_pass (nat_eq i) d.makes.items) (is_named es i) (named-there es e i m k)

-- a number that an edge names is marked
pub named_is_marked : (marks seen before : List Bool) (es : List OnwardEdge) → seen ≡ marks → ((i : ℕ) → is_marked marks i ≡ (is_marked before i || is_named es i)) → (i : ℕ) → is_named es i ≡ true → is_marked seen i ≡ true
named_is_marked marks seen before es same is i named = ap (λ bs. is_marked bs i) same ∙ (is i ∙ (ap (λ b. is_marked before i || b) named ∙ with-true (is_marked before i)))
