-- Trees seen as sets of facts.
use Rattle.std.proofs.Common.{◌≡◌, ℕ, suc, ◌<◌, ◌^◌, List, [], ◌∷◌, Bool, true, false, ◌&&◌, ◌||◌, nat_eq, Result, Ok, Err, OnOk, OnErr, IsTrue, IsFalse, Fits, w32, true≢false, get_or, refl, sym, ◌∙◌, ap, ap₂, subst, arith}
use Rattle.std.proofs.lemmas.Bool.Decides.{nat_tests}
use Rattle.herm_model.specs.Lists.{all_pass}
use Rattle.herm_model.specs.Paths.{Fact, init, case, same_path, same_fact, path_of}
use Rattle.herm_model.proofs.Equality.{same_numbers-is}
use Rattle.herm_typestate.specs.declared.tree.Mark.{Mark}
use Rattle.herm_typestate.specs.declared.tree.Mark.TheVariants.{Here, Component}
use Rattle.herm_typestate.specs.declared.tree.Tree.{Tree}
use Rattle.herm_typestate.specs.Trees.{has_mark, same_mark, is_mark_of, IsBeyond, Tells}
use Rattle.herm_typestate.specs.Small.{is_step, AreSmall}
use Rattle.herm_typestate.specs.Facts.{mark_of, facts_of}
use Rattle.herm_typestate.proofs.Meets.{and_false}

pub eq_turned : (i j : ℕ) → nat_eq i j ≡ nat_eq j i
eq_turned i j = by (nat_eq i j) refl (nat_eq j i) refl
  where
    by : (a : Bool) → nat_eq i j ≡ a → (b : Bool) → nat_eq j i ≡ b → a ≡ b
    by true e true f = refl
    by true e false f = grind (arith, nat_tests)
    by false e true f = grind (arith, nat_tests)
    by false e false f = refl

pub same_turned : (p q : List ℕ) → same_path p q ≡ same_path q p
same_turned [] [] = refl
same_turned [] (j ∷ q) = refl
same_turned (i ∷ p) [] = refl
same_turned (i ∷ p) (j ∷ q) = ap₂ ◌&&◌ (eq_turned i j) (same_turned p q)

and_true : (b : Bool) → (b && true) ≡ b
and_true true = refl
and_true false = refl

abbrev pub Makes : List Tree → List Tree → List ℕ → Mark → Type 0
Makes ts us p n = (m : Mark) (q : List ℕ) → has_mark us m q ≡ (is_mark_of p n m q || has_mark ts m q)

-- a fact is this one where its path and what it says of it are
same_fact-parts : (f g : Fact) → is_mark_of (path_of g) (mark_of g) (mark_of f) (path_of f) ≡ same_fact f g
same_fact-parts (init q) (init p) = and_true (same_path p q) ∙ same_turned p q
same_fact-parts (init q) (case p c) = and_false (same_path p q)
same_fact-parts (case q d) (init p) = and_false (same_path p q)
same_fact-parts (case q d) (case p c) = ap₂ ◌&&◌ (same_turned p q) (eq_turned c d)

pub makes_fact : (ts us : List Tree) (g : Fact) → Makes ts us (path_of g) (mark_of g) → (f : Fact) → facts_of us f ≡ (same_fact f g || facts_of ts f)
makes_fact ts us g h f = h (mark_of f) (path_of f) ∙ ap (λ b. b || facts_of ts f) (same_fact-parts f g)

pub beyond_fact : (ts us : List Tree) → IsBeyond (has_mark ts) (has_mark us) → (f : Fact) × (facts_of ts f ≡ true) × (facts_of us f ≡ false)
beyond_fact ts us h = by h.mark h.has h.lacks
  where
    by : (m : Mark) → has_mark ts m h.path ≡ true → has_mark us m h.path ≡ false → (f : Fact) × (facts_of ts f ≡ true) × (facts_of us f ≡ false)
    by Here a b = (init h.path, a, b)
    by (Component c) a b = (case h.path c, a, b)

-- numbers of 32 bits are steps
low_step : (i : ℕ) → i < 2 ^ 32 → is_step i ≡ true
low_step i h = grind (arith, nat_tests)

pub all_steps : (p : List ℕ) → ((k : ℕ) → Fits w32 (get_or p k 0)) → all_pass is_step p ≡ true
all_steps [] h = refl
all_steps (i ∷ p) h = let fits : Fits w32 i = h 0 in ap₂ ◌&&◌ (low_step i (omega (arith, fits))) (all_steps p (λ k. h (suc k)))

pub first_step : (i : ℕ) (p : List ℕ) → i < 2 ^ 32 → ((k : ℕ) → Fits w32 (get_or p k 0)) → all_pass is_step (i ∷ p) ≡ true
first_step i p low h = ap₂ ◌&&◌ (low_step i low) (all_steps p h)

pub told_true : (b : Bool) (A B : Type 0) → Tells b A B → IsTrue b → A
told_true true A B t h = t
told_true false A B t h = absurd (true≢false (sym h))

pub told_false : (b : Bool) (A B : Type 0) → Tells b A B → IsFalse b → B
told_false false A B t h = t
told_false true A B t h = absurd (true≢false h)

pub small_made : (ts us : List Tree) (p : List ℕ) (n : Mark) → AreSmall ts → all_pass is_step p ≡ true → Makes ts us p n → AreSmall us
small_made ts us p n small steps h m q has = by (is_mark_of p n m q) refl (sym (h m q) ∙ has)
  where
    first : (a b : Bool) → (a && b) ≡ true → a ≡ true
    first true b e = refl
    first false b e = e

    by : (b : Bool) → is_mark_of p n m q ≡ b → (b || has_mark ts m q) ≡ true → all_pass is_step q ≡ true
    by true e k = subst (λ r. all_pass is_step r ≡ true) (same_numbers-is p q (first (same_path p q) (same_mark n m) e)) steps
    by false e k = small m q k

pub small_same : (ts us : List Tree) → AreSmall ts → ((m : Mark) (q : List ℕ) → has_mark us m q ≡ has_mark ts m q) → AreSmall us
small_same ts us small h m q has = small m q (sym (h m q) ∙ has)

-- what follows in either case of an outcome
pub either_way : {T E A B C : Type 0} (r : Result T E) → OnOk r A → OnErr r B → (A → C) → (B → C) → C
either_way (Ok x) a b f g = f a
either_way (Err e) a b f g = g b
