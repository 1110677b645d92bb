-- Literals that are added in turn are the literals, each once.
use Rattle.std.proofs.Common.{◌≡◌, List, [], ◌∷◌, ◌++◌, Bool, true, false, cond, refl, sym, ap, ap₂, subst, ◌∙◌, append_assoc, true≢false}
use Rattle.std.specs.Prelude.{filter, not, ◌&&◌, ◌||◌}
use Rattle.herm_model.specs.Lists.{any_pass}
use Rattle.herm_model.specs.Expressions.{Literal}
use Rattle.herm_translated.specs.Constants.{same_literal, once}
use Rattle.herm_translated.proofs.FoundConstants.{same_literal-is}
use Rattle.herm_fronts.specs.Shared.{with_literal, shared}
use Rattle.herm_fronts.proofs.Keys.{same_turned}
use Rattle.herm_fronts.proofs.WalkedNodes.{any-append}

-- the literal is not among these
abbrev is_new : List Literal → Literal → Bool
is_new ks l = not (any_pass (same_literal l) ks)

-- these, and those of others that are new
abbrev grown : List Literal → List Literal → List Literal
grown ks ls = ks ++ filter (is_new ks) (once ls)

filters-same : {X : Type 0} (p q : X → Bool) (xs : List X) → ((x : X) → p x ≡ q x) → filter p xs ≡ filter q xs
filters-same p q [] e = refl
filters-same p q (x ∷ xs) e = by (p x) (q x) (e x) (filters-same p q xs e)
  where
    by : (a b : Bool) → a ≡ b → filter p xs ≡ filter q xs → cond a (x ∷ filter p xs) (filter p xs) ≡ cond b (x ∷ filter q xs) (filter q xs)
    by true true e f = ap (x ∷◌) f
    by true false e f = absurd (true≢false e)
    by false true e f = absurd (true≢false (sym e))
    by false false e f = f

filter-twice : {X : Type 0} (p q : X → Bool) (xs : List X) → filter p (filter q xs) ≡ filter (λ x. q x && p x) xs
filter-twice p q [] = refl
filter-twice p q (x ∷ xs) = by (q x) (p x) refl (filter-twice p q xs)
  where
    by : (a b : Bool) → p x ≡ b → filter p (filter q xs) ≡ filter (λ x. q x && p x) xs → filter p (cond a (x ∷ filter q xs) (filter q xs)) ≡ cond (a && b) (x ∷ filter (λ x. q x && p x) xs) (filter (λ x. q x && p x) xs)
    by true true e f = rw e (ap (x ∷◌) f)
    by true false e f = rw e f
    by false b e f = f

-- a literal that is new is another one than these
apart : (ks : List Literal) (l k : Literal) → any_pass (same_literal l) ks ≡ true → (not (same_literal l k) && is_new ks k) ≡ is_new ks k
apart ks l k h = by (same_literal l k) refl
  where
    by : (b : Bool) → same_literal l k ≡ b → (not b && is_new ks k) ≡ is_new ks k
    by true e = sym (ap not (subst (λ (m : Literal). any_pass (same_literal m) ks ≡ true) (same_literal-is l k e) h))
    by false e = refl

or-not : (a b : Bool) → (not a && not b) ≡ not (b || a)
or-not true true = refl
or-not true false = refl
or-not false true = refl
or-not false false = refl

or-last : (a b : Bool) → (a || (b || false)) ≡ (a || b)
or-last true b = refl
or-last false true = refl
or-last false false = refl

-- with one more, those are new that are another one and were new
new-with : (ks : List Literal) (l k : Literal) → (not (same_literal l k) && is_new ks k) ≡ is_new (ks ++ l ∷ []) k
new-with ks l k =
    or-not (same_literal l k) (any_pass (same_literal k) ks)
    ∙ ap not (ap (λ b. any_pass (same_literal k) ks || b) (same_turned l k) ∙ (sym (or-last (any_pass (same_literal k) ks) (same_literal k l)) ∙ sym (any-append (same_literal k) ks (l ∷ []))))

grown-with : (ks : List Literal) (l : Literal) (ls : List Literal) → grown (with_literal ks l) ls ≡ grown ks (l ∷ ls)
grown-with ks l ls = by (any_pass (same_literal l) ks) refl
  where
    rest : filter (is_new ks) (filter (λ k. not (same_literal l k)) (once ls)) ≡ filter (λ k. not (same_literal l k) && is_new ks k) (once ls)
    rest = filter-twice (is_new ks) (λ k. not (same_literal l k)) (once ls)

    by : (b : Bool) → any_pass (same_literal l) ks ≡ b → grown (cond b ks (ks ++ l ∷ [])) ls ≡ grown ks (l ∷ ls)
    by true e = ap (λ xs. ks ++ xs) (rw e (filters-same _ _ (once ls) (λ k. sym (apart ks l k e)) ∙ sym rest))
    by false e =
        append_assoc ks (l ∷ []) _
        ∙ ap (λ xs. ks ++ xs) (rw e (ap (l ∷◌) (filters-same _ _ (once ls) (λ k. sym (new-with ks l k)) ∙ sym rest)))

grown-shared : (ks ls : List Literal) → shared ks ls ≡ grown ks ls
grown-shared ks [] = none-behind ks
  where
    none-behind : (xs : List Literal) → xs ≡ xs ++ []
    none-behind [] = refl
    none-behind (x ∷ xs) = ap (x ∷◌) (none-behind xs)
grown-shared ks (l ∷ ls) = grown-shared (with_literal ks l) ls ∙ grown-with ks l ls

all-new : (xs : List Literal) → filter (is_new []) xs ≡ xs
all-new [] = refl
all-new (x ∷ xs) = ap (x ∷◌) (all-new xs)

pub shared-once : (ls : List Literal) → shared [] ls ≡ once ls
shared-once ls = grown-shared [] ls ∙ all-new (once ls)

pub shared-append : (ks ls ms : List Literal) → shared (shared ks ls) ms ≡ shared ks (ls ++ ms)
shared-append ks [] ms = refl
shared-append ks (l ∷ ls) ms = shared-append (with_literal ks l) ls ms
