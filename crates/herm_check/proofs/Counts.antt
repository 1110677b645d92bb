-- Labels weigh less as facts are taken.
use Rattle.std.proofs.Common.{◌≡◌, ℕ, ◌+◌, ◌≤◌, inl, inr, List, [], ◌∷◌, length, Bool, true, false, cond, ◌&&◌, refl, sym, ◌∙◌, ap, subst, arith, true≢false}
use Rattle.herm_model.specs.Lists.{IsIn}
use Rattle.herm_model.specs.Paths.{Fact}
use Rattle.herm_facts.specs.declared.fact_numbers.FactNumbers.{FactNumbers}
use Rattle.herm_check.specs.declared.label.Label.{Label}
use Rattle.herm_check.specs.Numberings.{in_set}
use Rattle.herm_check.specs.Weights.{count, label_weight}

one : (a b : Bool) → (a ≡ true → b ≡ true) → cond a 1 0 ≤ cond b 1 0
one true true h = omega arith
one true false h = absurd (true≢false (sym (h refl)))
one false true h = omega arith
one false false h = omega arith

pub count-all : (p : Fact → Bool) (fs : List Fact) → count p fs ≤ length fs
count-all p [] = omega arith
count-all p (f ∷ fs) = omega (arith, one (p f) true (λ h. refl), count-all p fs)

pub count-fewer : (p q : Fact → Bool) (fs : List Fact) → ((f : Fact) → p f ≡ true → q f ≡ true) → count p fs ≤ count q fs
count-fewer p q [] h = omega arith
count-fewer p q (f ∷ fs) h = omega (arith, one (p f) (q f) (h f), count-fewer p q fs h)

pub count-strict : (p q : Fact → Bool) (fs : List Fact) (g : Fact) → ((f : Fact) → p f ≡ true → q f ≡ true) → IsIn g fs → q g ≡ true → p g ≡ false → count p fs + 1 ≤ count q fs
count-strict p q [] g h member has lacks = absurd member
count-strict p q (f ∷ fs) g h (inl e) has lacks =
    let a : ◌≡◌ {A = ℕ} (cond (p f) 1 0) 0 = ap (λ (b : Bool). cond {A = ℕ} b 1 0) (subst (λ x. p x ≡ false) e lacks) in
    let b : ◌≡◌ {A = ℕ} (cond (q f) 1 0) 1 = ap (λ (b : Bool). cond {A = ℕ} b 1 0) (subst (λ x. q x ≡ true) e has) in
    omega (arith, a, b, count-fewer p q fs h)
count-strict p q (f ∷ fs) g h (inr member) has lacks = omega (arith, one (p f) (q f) (h f), count-strict p q fs g h member has lacks)

pub weight-first : (ns : FactNumbers) (all : List Fact) (l new : Label) → l.reached ≡ false → new.reached ≡ true → label_weight ns all new ≤ label_weight ns all l
weight-first ns all l new before now =
    let a : label_weight ns all l ≡ length all + 2 = ap (λ b. cond b (count (in_set ns l.held) all + cond l.pending 1 0) (length all + 2)) before in
    let b : label_weight ns all new ≡ count (in_set ns new.held) all + cond new.pending 1 0 = ap (λ b. cond b (count (in_set ns new.held) all + cond new.pending 1 0) (length all + 2)) now in
    omega (arith, a, b, count-all (in_set ns new.held) all, at_most_one new.pending)
  where
    at_most_one : (b : Bool) → cond b 1 0 ≤ 1
    at_most_one true = omega arith
    at_most_one false = omega arith

pub weight-met : (ns : FactNumbers) (all : List Fact) (l new : Label) (g : Fact) → l.reached ≡ true → new.reached ≡ true → ((f : Fact) → in_set ns new.held f ≡ true → in_set ns l.held f ≡ true) → IsIn g all → in_set ns l.held g ≡ true → in_set ns new.held g ≡ false → label_weight ns all new ≤ label_weight ns all l
weight-met ns all l new g before now fewer member has lacks =
    let a : label_weight ns all l ≡ count (in_set ns l.held) all + cond l.pending 1 0 = ap (λ b. cond b (count (in_set ns l.held) all + cond l.pending 1 0) (length all + 2)) before in
    let b : label_weight ns all new ≡ count (in_set ns new.held) all + cond new.pending 1 0 = ap (λ b. cond b (count (in_set ns new.held) all + cond new.pending 1 0) (length all + 2)) now in
    omega (arith, a, b, count-strict (in_set ns new.held) (in_set ns l.held) all g fewer member has lacks, at_most_one new.pending)
  where
    at_most_one : (b : Bool) → cond b 1 0 ≤ 1
    at_most_one true = omega arith
    at_most_one false = omega arith

-- a point that is no longer to be left weighs one less
pub weight-left : (ns : FactNumbers) (all : List Fact) (l new : Label) → l.reached ≡ true → l.pending ≡ true → new.reached ≡ true → new.pending ≡ false → ((f : Fact) → in_set ns new.held f ≡ in_set ns l.held f) → label_weight ns all new + 1 ≤ label_weight ns all l
weight-left ns all l new before waits now done same =
    let a : label_weight ns all l ≡ count (in_set ns l.held) all + 1 = ap (λ b. cond b (count (in_set ns l.held) all + cond l.pending 1 0) (length all + 2)) before ∙ ap (λ b. count (in_set ns l.held) all + cond b 1 0) waits in
    let b : label_weight ns all new ≡ count (in_set ns new.held) all + 0 = ap (λ b. cond b (count (in_set ns new.held) all + cond new.pending 1 0) (length all + 2)) now ∙ ap (λ b. count (in_set ns new.held) all + cond b 1 0) done in
    omega (arith, a, b, count-fewer (in_set ns new.held) (in_set ns l.held) all (λ f h. sym (same f) ∙ h))

pub first : (a b : Bool) → (a && b) ≡ true → a ≡ true
first true b e = refl
first false b e = e

pub none : (a b : Bool) → b ≡ false → (a && b) ≡ false
none true b e = e
none false b e = refl
