-- Facts that were pushed before are left out.
use Rattle.std.proofs.Common.{◌≡◌, ◌<◌, ℕ, zero, suc, List, [], ◌∷◌, ◌++◌, length, map, get_or, Bool, true, false, cond, ◌||◌, refl, sym, ap, ap₂, subst, ◌∙◌, inl, inr, append_assoc, arith}
use Rattle.std.proofs.lemmas.List.{append-nil}
use Rattle.herm_model.specs.Lists.{any_pass, IsIn}
use Rattle.herm_model.specs.Paths.{Fact, same_fact}
use Rattle.herm_model.specs.Facts.{without_repeats}
use Rattle.herm_model.proofs.Equality.{same_fact-is, same_fact_self}
use Rattle.herm_types.proofs.Repeats.{repeats-more}
use Rattle.herm_effects.specs.Pushed.{IsPushed}

turned : (f g : Fact) → same_fact f g ≡ same_fact g f
turned f g = by (same_fact f g) (same_fact g f) refl refl
  where
    by : (a b : Bool) → same_fact f g ≡ a → same_fact g f ≡ b → a ≡ b
    by true true e h = refl
    by false false e h = refl
    by true false e h = sym (same_fact_self g) ∙ subst (λ x. same_fact g x ≡ false) (same_fact-is f g e) h
    by false true e h = sym e ∙ subst (λ x. same_fact x g ≡ true) (same_fact-is g f h) (same_fact_self g)

any-turned : (x : Fact) (fs : List Fact) → any_pass (same_fact x) fs ≡ any_pass (λ g. same_fact g x) fs
any-turned x [] = refl
any-turned x (g ∷ fs) = ap₂ (λ a b. a || b) (turned x g) (any-turned x fs)

one-more : (xs : List Fact) (x : Fact) → without_repeats (xs ++ x ∷ []) ≡ without_repeats xs ++ cond (any_pass (λ g. same_fact g x) (without_repeats xs)) [] (x ∷ [])
one-more xs x = repeats-more xs x ∙ ap (λ b. without_repeats xs ++ cond b [] (x ∷ [])) (any-turned x (without_repeats xs))

-- what is in a set already is in it when it is added once more
pub held_already : (has : Fact → Bool) (x f : Fact) → has x ≡ true → has f ≡ (same_fact f x || has f)
held_already has x f h = by (same_fact f x) refl
  where
    by : (b : Bool) → same_fact f x ≡ b → has f ≡ (b || has f)
    by true e = ap has (same_fact-is f x e) ∙ h
    by false e = refl

pub any-append : (test : Fact → Bool) (xs ys : List Fact) → any_pass test (xs ++ ys) ≡ (any_pass test xs || any_pass test ys)
any-append test [] ys = refl
any-append test (x ∷ xs) ys = by (test x) (any-append test xs ys)
  where
    by : (b : Bool) → any_pass test (xs ++ ys) ≡ (any_pass test xs || any_pass test ys) → (b || any_pass test (xs ++ ys)) ≡ ((b || any_pass test xs) || any_pass test ys)
    by true e = refl
    by false e = e

alone : (b : Bool) → b ≡ (b || false)
alone true = refl
alone false = refl

either : (a b : Bool) → (a || b) ≡ (b || (a || false))
either true true = refl
either true false = refl
either false true = refl
either false false = refl

-- one fact more is pushed where the set does not have it
pub pushed_more : (has more : Fact → Bool) (x : Fact) (pushed new facts : List Fact) → ((f : Fact) → more f ≡ (same_fact f x || has f)) → new ≡ pushed ++ cond (has x) [] (x ∷ []) → IsPushed has pushed facts → IsPushed more new (facts ++ x ∷ [])
pushed_more has more x pushed new facts add is p = record {
  tells = λ f. add f ∙ (by f (has x) refl ∙ ap (any_pass (λ g. same_fact g f)) (sym is));
  once = is ∙ (ap₂ (λ b fs. fs ++ cond b [] (x ∷ [])) (p.tells x ∙ ap (any_pass (λ g. same_fact g x)) p.once) p.once ∙ sym (one-more facts x));
}
  where
    by : (f : Fact) (b : Bool) → has x ≡ b → (same_fact f x || has f) ≡ any_pass (λ g. same_fact g f) (pushed ++ cond b [] (x ∷ []))
    by f true h = sym (held_already has x f h) ∙ (p.tells f ∙ (alone (any_pass (λ g. same_fact g f) pushed) ∙ sym (any-append (λ g. same_fact g f) pushed [])))
    by f false h = ap₂ (λ a b. a || b) (turned f x) (p.tells f) ∙ (either (same_fact x f) (any_pass (λ g. same_fact g f) pushed) ∙ sym (any-append (λ g. same_fact g f) pushed (x ∷ [])))

-- the same where the facts that were pushed are themselves looked through
pub pushed_once : (pushed new facts : List Fact) (x : Fact) → new ≡ pushed ++ cond (any_pass (λ g. same_fact g x) pushed) [] (x ∷ []) → pushed ≡ without_repeats facts → new ≡ without_repeats (facts ++ x ∷ [])
pushed_once pushed new facts x is e = is ∙ (ap (λ fs. fs ++ cond (any_pass (λ g. same_fact g x) fs) [] (x ∷ [])) e ∙ sym (one-more facts x))

-- a fact at a place that passes the test is among them
pub one-passes : {X : Type 0} (test : Fact → Bool) (view : X → Fact) (xs : List X) (i : ℕ) (x : X) → i < length xs → x ≡ get_or xs i x → test (view x) ≡ true → any_pass test (map view xs) ≡ true
one-passes test view [] i x within is h = absurd (omega arith)
one-passes test view (y ∷ xs) zero x within is h = ap (λ b. b || any_pass test (map view xs)) (ap (λ z. test (view z)) (sym is) ∙ h)
one-passes test view (y ∷ xs) (suc i) x within is h = ap (λ b. test (view y) || b) (one-passes test view xs i x (omega arith) is h) ∙ ending (test (view y))
  where
    ending : (b : Bool) → (b || true) ≡ true
    ending true = refl
    ending false = refl

-- what is told to be among facts is one of them
pub some-in : (f : Fact) (fs : List Fact) → any_pass (λ g. same_fact g f) fs ≡ true → IsIn f fs
some-in f [] h = absurd cc
some-in f (g ∷ fs) h = by (same_fact g f) refl h (some-in f fs)
  where
    by : (b : Bool) → same_fact g f ≡ b → (b || any_pass (λ k. same_fact k f) fs) ≡ true → (any_pass (λ k. same_fact k f) fs ≡ true → IsIn f fs) → IsIn f (g ∷ fs)
    by true e k again = inl (sym (same_fact-is g f e))
    by false e k again = inr (again k)

in-some : (f : Fact) (fs : List Fact) → IsIn f fs → any_pass (λ g. same_fact g f) fs ≡ true
in-some f [] h = absurd h
in-some f (g ∷ fs) (inl e) = subst (λ k. (same_fact k f || any_pass (λ k. same_fact k f) fs) ≡ true) e (ap (λ b. b || any_pass (λ k. same_fact k f) fs) (same_fact_self f))
in-some f (g ∷ fs) (inr h) = by (same_fact g f) (in-some f fs h)
  where
    by : (b : Bool) → any_pass (λ k. same_fact k f) fs ≡ true → (b || any_pass (λ k. same_fact k f) fs) ≡ true
    by true k = refl
    by false k = k

-- facts that were all pushed change nothing when they come again
absorbed : (facts more : List Fact) → ((g : Fact) → IsIn g more → IsIn g (without_repeats facts)) → without_repeats facts ≡ without_repeats (facts ++ more)
absorbed facts [] all = ap without_repeats (sym (append-nil facts))
absorbed facts (x ∷ more) all =
    let same : without_repeats facts ≡ without_repeats (facts ++ x ∷ []) = sym (one-more facts x ∙ (ap (λ b. without_repeats facts ++ cond b [] (x ∷ [])) (in-some x (without_repeats facts) (all x (inl refl))) ∙ append-nil (without_repeats facts))) in
    same ∙ (absorbed (facts ++ x ∷ []) more (λ g h. subst (IsIn g) same (all g (inr h))) ∙ ap without_repeats (append_assoc facts (x ∷ []) more))

pub pushed_already : (has : Fact → Bool) (pushed facts more : List Fact) → ((g : Fact) → IsIn g more → IsIn g pushed) → IsPushed has pushed facts → IsPushed has pushed (facts ++ more)
pushed_already has pushed facts more all p = record {
  tells = p.tells;
  once = p.once ∙ absorbed facts more (λ g h. subst (IsIn g) p.once (all g h));
}
