-- Facts are compared, and those that stand before are left out.
use Rattle.std.proofs.Common.{inl, inr, append_assoc, append-nil, ◌≡◌, ℕ, zero, suc, ◌+◌, ◌-◌, List, [], ◌∷◌, ◌++◌, Bool, true, false, cond, not, ◌&&◌, ◌||◌, map, filter, length, take, slice_get, nat_eq, refl, sym, ◌∙◌, ap, ap₂, subst, arith, IsTrue}
use lib.Pointwise.{pointwise}
use Rattle.herm_model.specs.Lists.{IsIn, same_numbers, any_pass}
use Rattle.herm_model.specs.Paths.{Fact, init, same_fact, parent}
use Rattle.herm_model.specs.Types.{TypeTable}
use Rattle.herm_model.specs.Facts.{without_repeats, facts_from, prefixes}
use Rattle.herm_model.proofs.Equality.{same_fact-is, same_fact_self}
use Rattle.herm_model.proofs.Lists.{in-append_left}
use Rattle.herm_model.proofs.ClosedFacts.{IsIn-once}
use Rattle.herm_types.proofs.Extended.{map-append}

pub same-slices : (a b : List ℕ) → pointwise nat_eq a b ≡ same_numbers a b
same-slices [] [] = refl
same-slices [] (y ∷ b) = refl
same-slices (x ∷ a) [] = refl
same-slices (x ∷ a) (y ∷ b) = ap (λ t. nat_eq x y && t) (same-slices a b)

parent-take : (i : ℕ) (p : List ℕ) → parent (i ∷ p) ≡ take (length p) (i ∷ p)
parent-take i [] = refl
parent-take i (j ∷ p) = ap (i ∷◌) (parent-take j p)

-- the facts before `init` are those to the path without its last step
pub prefixes-init : (table : TypeTable) (message v : ℕ) (parts : List ℕ) → (length parts ≡ 0 → ⊥) → facts_from table (v ∷ []) (slice_get (message ∷ []) v) false (take (length parts - 1) parts) ≡ prefixes table (message ∷ []) (init (v ∷ parts))
prefixes-init table message v [] n = absurd (n refl)
prefixes-init table message v (i ∷ p) n =
    let less : length (i ∷ p) - 1 ≡ length p = omega arith in
    ap (facts_from table (v ∷ []) (slice_get (message ∷ []) v) false) (ap (λ k. take k (i ∷ p)) less ∙ sym (parent-take i p))

filter-append : (p : Fact → Bool) (xs ys : List Fact) → filter p (xs ++ ys) ≡ filter p xs ++ filter p ys
filter-append p [] ys = refl
filter-append p (x ∷ xs) ys = by (p x) (filter-append p xs ys)
  where
    by : (b : Bool) → filter p (xs ++ ys) ≡ filter p xs ++ filter p ys → cond b (x ∷ filter p (xs ++ ys)) (filter p (xs ++ ys)) ≡ cond b (x ∷ filter p xs) (filter p xs) ++ filter p ys
    by true e = ap (x ∷◌) e
    by false e = e

-- what is equal to a fact that is left out is left out
some-filter : (f x : Fact) (xs : List Fact) → same_fact f x ≡ false → any_pass (λ g. same_fact g x) (filter (λ g. not (same_fact f g)) xs) ≡ any_pass (λ g. same_fact g x) xs
some-filter f x [] n = refl
some-filter f x (g ∷ xs) n = by (same_fact f g) refl (some-filter f x xs n)
  where
    by : (b : Bool) → same_fact f g ≡ b → any_pass (λ g'. same_fact g' x) (filter (λ g'. not (same_fact f g')) xs) ≡ any_pass (λ g'. same_fact g' x) xs → any_pass (λ g'. same_fact g' x) (cond (not b) (g ∷ filter (λ g'. not (same_fact f g')) xs) (filter (λ g'. not (same_fact f g')) xs)) ≡ any_pass (λ g'. same_fact g' x) (g ∷ xs)
    by true e again = again ∙ ap (λ t. t || any_pass (λ g'. same_fact g' x) xs) (sym (subst (λ h. same_fact h x ≡ false) (same_fact-is f g e) n))
    by false e again = ap (λ t. same_fact g x || t) again

last-kept : (f x : Fact) (same listed : Bool) → same_fact f x ≡ same → filter (λ g. not (same_fact f g)) (cond listed [] (x ∷ [])) ≡ cond (same || listed) [] (x ∷ [])
last-kept f x true true e = refl
last-kept f x true false e = rw e refl
last-kept f x false true e = refl
last-kept f x false false e = rw e refl

or-true : (b : Bool) → (b || true) ≡ true
or-true true = refl
or-true false = refl

any-true : (f : Fact) (fs : List Fact) → IsIn f fs → any_pass (same_fact f) fs ≡ true
any-true f [] h = absurd h
any-true f (g ∷ fs) (inl e) = rw (subst (λ x. same_fact f x ≡ true) e (same_fact_self f)) refl
any-true f (g ∷ fs) (inr h) = ap (λ b. same_fact f g || b) (any-true f fs h) ∙ or-true (same_fact f g)

pub any-in : (f : Fact) (fs : List Fact) → any_pass (same_fact f) fs ≡ true → IsIn f fs
any-in f [] e = absurd cc
any-in f (g ∷ fs) e = by (same_fact f g) refl (any-in f fs) e
  where
    by : (b : Bool) → same_fact f g ≡ b → (any_pass (same_fact f) fs ≡ true → IsIn f fs) → (b || any_pass (same_fact f) fs) ≡ true → IsIn f (g ∷ fs)
    by true s again h = inl (same_fact-is f g s)
    by false s again h = inr (again h)

together : (a b : Bool) → (a ≡ true → b ≡ true) → (b ≡ true → a ≡ true) → a ≡ b
together true b f g = sym (f refl)
together false true f g = g refl
together false false f g = refl

turned : (f g : Fact) → same_fact f g ≡ same_fact g f
turned f g = together (same_fact f g) (same_fact g f) (one f g) (one g f)
  where
    one : (f g : Fact) → same_fact f g ≡ true → same_fact g f ≡ true
    one f g e = subst (λ x. same_fact x f ≡ true) (same_fact-is f g e) (same_fact_self f)

any-turned : (x : Fact) (fs : List Fact) → any_pass (λ g. same_fact g x) fs ≡ any_pass (same_fact x) fs
any-turned x [] = refl
any-turned x (g ∷ fs) = ap₂ (λ a b. a || b) (turned g x) (any-turned x fs)

-- one fact more
repeats-one : (xs : List Fact) (x : Fact) → without_repeats (xs ++ x ∷ []) ≡ without_repeats xs ++ cond (any_pass (λ g. same_fact g x) (without_repeats xs)) [] (x ∷ [])
repeats-one [] x = refl
repeats-one (f ∷ xs) x =
    ap (f ∷◌)
    (ap (filter (λ g. not (same_fact f g))) (repeats-one xs x)
    ∙ (filter-append (λ g. not (same_fact f g)) (without_repeats xs) (cond (any_pass (λ g. same_fact g x) (without_repeats xs)) [] (x ∷ []))
    ∙ ap (filter (λ g. not (same_fact f g)) (without_repeats xs) ++◌) (by (same_fact f x) refl)))
  where
    by : (b : Bool) → same_fact f x ≡ b → filter (λ g. not (same_fact f g)) (cond (any_pass (λ g. same_fact g x) (without_repeats xs)) [] (x ∷ [])) ≡ cond (same_fact f x || any_pass (λ g. same_fact g x) (filter (λ g. not (same_fact f g)) (without_repeats xs))) [] (x ∷ [])
    by true e = last-kept f x true _ e ∙ rw e refl
    by false e = last-kept f x false _ e ∙ rw (e, some-filter f x (without_repeats xs) e) refl

pub repeats-more : (xs : List Fact) (x : Fact) → without_repeats (xs ++ x ∷ []) ≡ without_repeats xs ++ cond (any_pass (same_fact x) (without_repeats xs)) [] (x ∷ [])
repeats-more xs x = repeats-one xs x ∙ ap (λ b. without_repeats xs ++ cond b [] (x ∷ [])) (any-turned x (without_repeats xs))

-- the loop's step
pub repeats-step : {X : Type 0} (view : X → Fact) (before : List Fact) (seen : List X) (x : X) (out : List Fact) (new : List Fact) → out ≡ without_repeats (before ++ map view seen) → new ≡ out ++ cond (any_pass (same_fact (view x)) out) [] (view x ∷ []) → new ≡ without_repeats (before ++ map view (seen ++ x ∷ []))
repeats-step view before seen x out new e n =
    n ∙ (rw e (sym (repeats-more (before ++ map view seen) (view x))) ∙ ap without_repeats (append_assoc before (map view seen) (view x ∷ []) ∙ ap (before ++◌) (sym (map-append view seen (x ∷ [])))))

-- facts that are all there add nothing
pub nothing-new : (xs ys : List Fact) → ((g : Fact) → IsIn g ys → IsIn g xs) → without_repeats (xs ++ ys) ≡ without_repeats xs
nothing-new xs [] all = ap without_repeats (append-nil xs)
nothing-new xs (y ∷ ys) all =
    ap without_repeats (sym (append_assoc xs (y ∷ []) ys))
    ∙ (nothing-new (xs ++ y ∷ []) ys (λ g h. in-append_left g xs (y ∷ []) (all g (inr h)))
    ∙ (repeats-more xs y
    ∙ (ap (λ b. without_repeats xs ++ cond b [] (y ∷ [])) (any-true y (without_repeats xs) (IsIn-once y xs (all y (inl refl)))) ∙ append-nil (without_repeats xs))))
