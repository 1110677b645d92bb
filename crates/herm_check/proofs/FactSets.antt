-- How many numbers sets do not have.
use Rattle.std.proofs.Common.{◌≡◌, ◌⊎◌, inl, inr, ℕ, zero, suc, ◌+◌, ◌*◌, ◌<◌, ◌≤◌, List, [], ◌∷◌, length, Bool, true, false, cond, ◌||◌, Option, Some, None, slice_get, slice_set, refl, ◌∙◌, ap, ap₂, subst, arith}
use Rattle.std.proofs.lemmas.Bool.{cases_eq}
use Rattle.herm_facts.specs.declared.fact_set.FactSet.{FactSet}
use Rattle.herm_facts.specs.FactSets.{has}
use Rattle.herm_check.specs.FactSets.{lacking, unseen}

-- ---- the numbers that a set does not have

one-less : (a b c : Bool) → c ≡ (a || b) → cond c 0 1 ≤ cond a 0 1
one-less a true c e = omega (arith, ap (λ (x : Bool). cond {A = ℕ} x 0 1) (e ∙ always a))
  where
    always : (x : Bool) → (x || true) ≡ true
    always true = refl
    always false = refl
one-less true false c e = omega (arith, ap (λ (x : Bool). cond {A = ℕ} x 0 1) e)
one-less false false c e = omega (arith, ap (λ (x : Bool). cond {A = ℕ} x 0 1) e)

-- with more numbers there are no more that are lacking
pub lacking-less : (n : ℕ) (s g t : FactSet) → ((j : ℕ) → has t j ≡ (has s j || has g j)) → lacking n t ≤ lacking n s
lacking-less zero s g t more = omega arith
lacking-less (suc n) s g t more = omega (arith, one-less (has s n) (has g n) (has t n) (more n), lacking-less n s g t more)

-- with a number that was not there one less is lacking
pub lacking-fewer : (n : ℕ) (s g t : FactSet) → ((j : ℕ) → has t j ≡ (has s j || has g j)) → (j : ℕ) → j < n → has g j ≡ true → has s j ≡ false → suc (lacking n t) ≤ lacking n s
lacking-fewer zero s g t more j below new old = absurd (omega (arith, below))
lacking-fewer (suc n) s g t more j below new old = by (cases_eq j n) (λ apart. lacking-fewer n s g t more j (omega (arith, below, apart)) new old)
  where
    by : (j ≡ n) ⊎ (j ≡ n → ⊥) → ((j ≡ n → ⊥) → suc (lacking n t) ≤ lacking n s) → suc (lacking (suc n) t) ≤ lacking (suc n) s
    by (inl same) again =
        let was : ◌≡◌ {A = ℕ} (cond (has s n) 0 1) 1 = ap (λ (x : Bool). cond {A = ℕ} x 0 1) (subst (λ k. has s k ≡ false) same old) in
        let is : ◌≡◌ {A = ℕ} (cond (has t n) 0 1) 0 = ap (λ (x : Bool). cond {A = ℕ} x 0 1) (more n ∙ ap₂ (λ a b. a || b) (subst (λ k. has s k ≡ false) same old) (subst (λ k. has g k ≡ true) same new)) in
        omega (arith, was, is, lacking-less n s g t more)
    by (inr apart) again = omega (arith, one-less (has s n) (has g n) (has t n) (more n), again apart)

some-same : {X : Type 0} {x y : X} → ◌≡◌ {A = Option X} (Some x) (Some y) → x ≡ y
some-same e = cc

none-some : {X : Type 0} (x : X) → ◌≡◌ {A = Option X} None (Some x) → ⊥
none-some x e = cc

-- so it is of one of several sets
pub unseen-fewer : (sets : List FactSet) (i : ℕ) (s g t : FactSet) → slice_get sets i ≡ Some s → ((j : ℕ) → has t j ≡ (has s j || has g j)) → (j : ℕ) → j < 64 → has g j ≡ true → has s j ≡ false → suc (unseen (slice_set sets i t)) ≤ unseen sets
unseen-fewer [] i s g t at more j below new old = absurd (none-some s at)
unseen-fewer (x ∷ sets) zero s g t at more j below new old =
    let here : lacking 64 x ≡ lacking 64 s = ap (lacking 64) (some-same at) in
    let less = lacking-fewer 64 s g t more j below new old in
    omega (arith, here, less)
unseen-fewer (x ∷ sets) (suc i) s g t at more j below new old = let less = unseen-fewer sets i s g t at more j below new old in omega (arith, less)

lacking-all : (n : ℕ) (s : FactSet) → ((j : ℕ) → has s j ≡ false) → lacking n s ≡ n
lacking-all zero s none = refl
lacking-all (suc n) s none =
    let here : ◌≡◌ {A = ℕ} (cond (has s n) 0 1) 1 = ap (λ (x : Bool). cond {A = ℕ} x 0 1) (none n) in
    omega (arith, here, lacking-all n s none)

-- sets that have no number lack 64 each
pub unseen-all : (sets : List FactSet) → ((i j : ℕ) (s : FactSet) → slice_get sets i ≡ Some s → has s j ≡ false) → unseen sets ≡ 64 * length sets
unseen-all [] none = refl
unseen-all (s ∷ sets) none =
    let here = lacking-all 64 s (λ j. none 0 j s refl) in
    let rest = unseen-all sets (λ i j t at. none (suc i) j t at) in
    omega (arith, here, rest)
