-- Lemmas on lists that compute on the first element.
use Rattle.std.proofs.Common.{◌≡◌, ℕ, zero, suc, ◌+◌, length, List, [], ◌∷◌, ◌++◌, map, flat_map, filter, find, Bool, true, false, cond, Some, option_map, slice_get, ◌&&◌, ◌||◌, ◌⊎◌, inl, inr, IsTrue, refl, sym, ap, subst, arith, true≢false}
use Rattle.herm_model.specs.Statements.{Differ}
use Rattle.herm_model.specs.Lists.{IsIn, all_pass, numbered, total}

abbrev is_cons : {X : Type 0} → List X → Bool
is_cons [] = false
is_cons (x ∷ xs) = true

abbrev head_or : {X : Type 0} → X → List X → X
head_or d [] = d
head_or d (x ∷ xs) = x

abbrev tail : {X : Type 0} → List X → List X
tail [] = []
tail (x ∷ xs) = xs

pub cons-not_nil : {A X : Type 0} (x : X) (xs : List X) → x ∷ xs ≡ [] → A
cons-not_nil x xs e = absurd (true≢false (ap is_cons e))

pub cons-head : {X : Type 0} {x y : X} {xs ys : List X} → x ∷ xs ≡ y ∷ ys → x ≡ y
cons-head {x = x} e = ap (head_or x) e

pub cons-tail : {X : Type 0} {x y : X} {xs ys : List X} → x ∷ xs ≡ y ∷ ys → xs ≡ ys
cons-tail e = ap tail e

pub in-append_left : {X : Type 0} (x : X) (xs ys : List X) → IsIn x xs → IsIn x (xs ++ ys)
in-append_left x [] ys h = absurd h
in-append_left x (z ∷ xs) ys (inl e) = inl e
in-append_left x (z ∷ xs) ys (inr h) = inr (in-append_left x xs ys h)

pub in-append_right : {X : Type 0} (x : X) (xs ys : List X) → IsIn x ys → IsIn x (xs ++ ys)
in-append_right x [] ys h = h
in-append_right x (z ∷ xs) ys h = inr (in-append_right x xs ys h)

pub in-append_cases : {X : Type 0} (x : X) (xs ys : List X) → IsIn x (xs ++ ys) → IsIn x xs ⊎ IsIn x ys
in-append_cases x [] ys h = inr h
in-append_cases x (z ∷ xs) ys (inl e) = inl (inl e)
in-append_cases x (z ∷ xs) ys (inr h) = again (in-append_cases x xs ys h)
  where
    again : IsIn x xs ⊎ IsIn x ys → IsIn x (z ∷ xs) ⊎ IsIn x ys
    again (inl a) = inl (inr a)
    again (inr b) = inr b

-- what each of two lists is, each of both joined is
pub each-joined : {X : Type 0} (P : X → Type 0) (xs ys : List X) → ((x : X) → IsIn x xs → P x) → ((x : X) → IsIn x ys → P x) → (x : X) → IsIn x (xs ++ ys) → P x
each-joined P xs ys h k x member = by (in-append_cases x xs ys member)
  where
    by : IsIn x xs ⊎ IsIn x ys → P x
    by (inl a) = h x a
    by (inr b) = k x b

pub each-first : {X : Type 0} (P : X → Type 0) (y : X) (xs : List X) → P y → ((x : X) → IsIn x xs → P x) → (x : X) → IsIn x (y ∷ xs) → P x
each-first P y xs h k x (inl e) = subst P (sym e) h
each-first P y xs h k x (inr member) = k x member

pub each-none : {X : Type 0} (P : X → Type 0) (x : X) → IsIn x [] → P x
each-none P x member = absurd member

pub in-append_more : {X : Type 0} (x : X) (xs ys zs : List X) → (IsIn x ys → IsIn x zs) → IsIn x (xs ++ ys) → IsIn x (xs ++ zs)
in-append_more x [] ys zs f h = f h
in-append_more x (w ∷ xs) ys zs f (inl e) = inl e
in-append_more x (w ∷ xs) ys zs f (inr h) = inr (in-append_more x xs ys zs f h)

pub in-map : {X Y : Type 0} (f : X → Y) (x : X) (xs : List X) → IsIn x xs → IsIn (f x) (map f xs)
in-map f x [] h = h
in-map f x (z ∷ xs) (inl e) = inl (ap f e)
in-map f x (z ∷ xs) (inr h) = inr (in-map f x xs h)

pub in-map_from : {X Y : Type 0} (f : X → Y) (y : Y) (xs : List X) → IsIn y (map f xs) → (x : X) × IsIn x xs × (y ≡ f x)
in-map_from f y [] h = absurd h
in-map_from f y (z ∷ xs) (inl e) = (z, inl refl, e)
in-map_from f y (z ∷ xs) (inr h) = let r = in-map_from f y xs h in (r.0, inr r.1, r.2)

pub in-flat_map : {X Y : Type 0} (f : X → List Y) (x : X) (y : Y) (xs : List X) → IsIn x xs → IsIn y (f x) → IsIn y (flat_map f xs)
in-flat_map f x y [] h k = absurd h
in-flat_map f x y (z ∷ xs) (inl e) k = in-append_left y (f z) (flat_map f xs) (subst (λ w. IsIn y (f w)) e k)
in-flat_map f x y (z ∷ xs) (inr h) k = in-append_right y (f z) (flat_map f xs) (in-flat_map f x y xs h k)

pub in-flat_map_from : {X Y : Type 0} (f : X → List Y) (y : Y) (xs : List X) → IsIn y (flat_map f xs) → (x : X) × IsIn x xs × IsIn y (f x)
in-flat_map_from f y [] h = absurd h
in-flat_map_from {X} f y (z ∷ xs) h = by (in-flat_map_from f y xs) (in-append_cases y (f z) (flat_map f xs) h)
  where
    by : (IsIn y (flat_map f xs) → (x : X) × IsIn x xs × IsIn y (f x)) → IsIn y (f z) ⊎ IsIn y (flat_map f xs) → (x : X) × IsIn x (z ∷ xs) × IsIn y (f x)
    by again (inl a) = (z, inl refl, a)
    by again (inr b) = let r = again b in (r.0, inr r.1, r.2)

pub not_true : {A : Type 0} → IsTrue false → A
not_true h = absurd (true≢false (sym h))

pub and-both : (a b : Bool) → IsTrue (a && b) → IsTrue a × IsTrue b
and-both true b h = (refl, h)
and-both false b h = not_true h

pub both-and : (a b : Bool) → IsTrue a → IsTrue b → IsTrue (a && b)
both-and true b h k = k
both-and false b h k = h

pub or-either : (a b : Bool) → IsTrue (a || b) → IsTrue a ⊎ IsTrue b
or-either true b h = inl refl
or-either false b h = inr h

pub or-left : (a b : Bool) → IsTrue a → IsTrue (a || b)
or-left true b h = refl
or-left false b h = not_true h

pub or-right : (a b : Bool) → IsTrue b → IsTrue (a || b)
or-right true b h = refl
or-right false b h = h

pub in-filter : {X : Type 0} (test : X → Bool) (x : X) (xs : List X) → IsIn x xs → IsTrue (test x) → IsIn x (filter test xs)
in-filter test x [] h passes = absurd h
in-filter test x (z ∷ xs) (inl e) passes = go (test z) (subst (λ x. IsTrue (test x)) e passes)
  where
    go : (b : Bool) → IsTrue b → IsIn x (cond b (z ∷ filter test xs) (filter test xs))
    go true h = inl e
    go false h = not_true h
in-filter test x (z ∷ xs) (inr member) passes = go (test z) (in-filter test x xs member passes)
  where
    go : (b : Bool) → IsIn x (filter test xs) → IsIn x (cond b (z ∷ filter test xs) (filter test xs))
    go true k = inr k
    go false k = k

pub in-filter_from : {X : Type 0} (test : X → Bool) (x : X) (xs : List X) → IsIn x (filter test xs) → IsIn x xs × IsTrue (test x)
in-filter_from test x [] h = absurd h
in-filter_from {X} test x (z ∷ xs) h = go (test z) refl (in-filter_from test x xs) h
  where
    go : (b : Bool) → test z ≡ b → (IsIn x (filter test xs) → IsIn x xs × IsTrue (test x)) → IsIn x (cond b (z ∷ filter test xs) (filter test xs)) → IsIn x (z ∷ xs) × IsTrue (test x)
    go true passes later (inl e) = (inl e, subst (λ x. IsTrue (test x)) (sym e) passes)
    go true passes later (inr k) = let r = later k in (inr r.0, r.1)
    go false passes later k = let r = later k in (inr r.0, r.1)

-- what is found is of the list, and passes
pub found-in : {X : Type 0} (test : X → Bool) (x : X) (xs : List X) → find test xs ≡ Some x → IsIn x xs × IsTrue (test x)
found-in test x [] h = cc
found-in {X} test x (z ∷ xs) h = go (test z) refl (found-in test x xs) h
  where
    go : (b : Bool) → test z ≡ b → (find test xs ≡ Some x → IsIn x xs × IsTrue (test x)) → cond b (Some z) (find test xs) ≡ Some x → IsIn x (z ∷ xs) × IsTrue (test x)
    go true passes later h = let same : x ≡ z = cc h in (inl same, subst (λ x. IsTrue (test x)) (sym same) passes)
    go false passes later h = let r = later h in (inr r.0, r.1)

pub slice_get-map : {X Y : Type 0} (f : X → Y) (xs : List X) (j : ℕ) → slice_get (map f xs) j ≡ option_map f (slice_get xs j)
slice_get-map f [] j = refl
slice_get-map f (x ∷ xs) zero = refl
slice_get-map f (x ∷ xs) (suc j) = slice_get-map f xs j

pub every-in : {X : Type 0} (test : X → Bool) (x : X) (xs : List X) → IsTrue (all_pass test xs) → IsIn x xs → IsTrue (test x)
every-in test x [] h i = absurd i
every-in test x (z ∷ xs) h (inl e) = subst (λ w. IsTrue (test w)) (sym e) (and-both (test z) _ h).0
every-in test x (z ∷ xs) h (inr i) = every-in test x xs (and-both (test z) _ h).1 i

pub in-every : {X : Type 0} (test : X → Bool) (xs : List X) → ((x : X) → IsIn x xs → IsTrue (test x)) → IsTrue (all_pass test xs)
in-every test [] h = refl
in-every test (z ∷ xs) h = both-and (test z) _ (h z (inl refl)) (in-every test xs (λ x i. h x (inr i)))

pub numbered-in : {X : Type 0} (i k : ℕ) (x : X) (xs : List X) → IsIn (i, x) (numbered k xs) → IsIn x xs
numbered-in i k x [] h = h
numbered-in {X} i k x (z ∷ xs) (inl e) = inl (ap (λ (p : ℕ × X). p.1) e)
numbered-in i k x (z ∷ xs) (inr h) = inr (numbered-in i (suc k) x xs h)

pub length-map : {X Y : Type 0} (f : X → Y) (xs : List X) → length (map f xs) ≡ length xs
length-map f [] = refl
length-map f (x ∷ xs) = ap suc (length-map f xs)

pub total-append : {X : Type 0} (f : X → ℕ) (xs ys : List X) → total f (xs ++ ys) ≡ total f xs + total f ys
total-append f [] ys = omega arith
total-append f (x ∷ xs) ys = omega (arith, total-append f xs ys)

-- a list in front of another, with no element of it
pub joined-Differ : {X : Type 0} (xs ys : List X) → Differ xs → Differ ys → ((x : X) → IsIn x xs → IsIn x ys → ⊥) → Differ (xs ++ ys)
joined-Differ [] ys h k apart = k
joined-Differ {X} (x ∷ xs) ys h k apart = (λ member. by (in-append_cases x xs ys member), joined-Differ xs ys h.1 k (λ y a b. apart y (inr a) b))
  where
    by : IsIn x xs ⊎ IsIn x ys → ⊥
    by (inl a) = h.0 a
    by (inr b) = apart x (inl refl) b

pub mapped-Differ : {X Y : Type 0} (f : X → Y) → ((a b : X) → f a ≡ f b → a ≡ b) → (xs : List X) → Differ xs → Differ (map f xs)
mapped-Differ f injective [] h = tt
mapped-Differ {X} f injective (x ∷ xs) h = (λ member. by (in-map_from f (f x) xs member), mapped-Differ f injective xs h.1)
  where
    by : (y : X) × IsIn y xs × (f x ≡ f y) → ⊥
    by found = h.0 (subst (λ z. IsIn z xs) (sym (injective x found.0 found.2)) found.1)
