-- Next ones in lists that grow or change at one place.
use Rattle.std.proofs.Common.{◌≡◌, ◌<◌, ◌≤◌, ◌⊎◌, inl, inr, ℕ, zero, suc, ◌+◌, Bool, true, false, ◌||◌, ◌&&◌, not, nat_lt, nat_eq, cond, filter, List, [], ◌∷◌, ◌++◌, length, take, get_or, Some, None, IsTrue, refl, sym, ◌∙◌, ap, subst, arith, true≢false, Vec, Global}
use Rattle.std.specs.List.{list_all}
use Rattle.std.proofs.Math.ListN.{set}
use Rattle.std.proofs.lemmas.List.{take_more}
use Rattle.std.proofs.lemmas.Option.{slice_get_within}
use Rattle.std.proofs.lemmas.Bool.{ltb-true, ltb-false, eqb-true}
use Rattle.herm_model.specs.Lists.{IsIn}
use Rattle.herm_model.proofs.Lists.{and-both}
use Rattle.herm_types.specs.Table.{says}
use Rattle.herm_types.specs.Chosen.{lists}
use Rattle.herm_graph.specs.Graph.{IsNext, number_at, comes_behind, AreInside, AreReversed}
use Rattle.herm_graph.proofs.Meeting.{said-within}
use Rattle.herm_graph.proofs.Reaching.{next-read}

-- ---- elements of lists

in-end : {X : Type 0} (x : X) (xs : List X) (y : X) → IsIn x (xs ++ y ∷ []) → IsIn x xs ⊎ (x ≡ y)
in-end x [] y (inl e) = inr e
in-end x [] y (inr i) = absurd i
in-end x (z ∷ zs) y (inl e) = inl (inl e)
in-end x (z ∷ zs) y (inr i) = by (in-end x zs y i)
  where
    by : IsIn x zs ⊎ (x ≡ y) → IsIn x (z ∷ zs) ⊎ (x ≡ y)
    by (inl j) = inl (inr j)
    by (inr e) = inr e

pub in-filtered : (p : ℕ → Bool) (x : ℕ) (xs : List ℕ) → IsIn x (filter p xs) → IsIn x xs × (p x ≡ true)
in-filtered p x [] i = absurd i
in-filtered p x (y ∷ ys) i = by (p y) refl i (in-filtered p x ys)
  where
    by : (b : Bool) → p y ≡ b → IsIn x (cond b (y ∷ filter p ys) (filter p ys)) → (IsIn x (filter p ys) → IsIn x ys × (p x ≡ true)) → IsIn x (y ∷ ys) × (p x ≡ true)
    by true h (inl e) again = (inl e, ap p e ∙ h)
    by true h (inr j) again = let r = again j in (inr r.0, r.1)
    by false h j again = let r = again j in (inr r.0, r.1)

pub in-one-more : (xs : List ℕ) (i d : ℕ) → i < length xs → (x : ℕ) → IsIn x (take i xs) → IsIn x (take (i + 1) xs)
in-one-more xs i d l x h = subst (λ zs. IsIn x zs) (sym (take_more xs i d l)) (before (take i xs) h)
  where
    before : (zs : List ℕ) → IsIn x zs → IsIn x (zs ++ get_or xs i d ∷ [])
    before [] j = absurd j
    before (z ∷ zs) (inl same) = inl same
    before (z ∷ zs) (inr j) = inr (before zs j)

in-last : (xs : List ℕ) (i d : ℕ) → i < length xs → IsIn (get_or xs i d) (take (i + 1) xs)
in-last xs i d l = subst (λ zs. IsIn (get_or xs i d) zs) (sym (take_more xs i d l)) (at (take i xs))
  where
    at : (zs : List ℕ) → IsIn (get_or xs i d) (zs ++ get_or xs i d ∷ [])
    at [] = inl refl
    at (z ∷ zs) = inr (at zs)

in-take : (xs : List ℕ) (i x : ℕ) → IsIn x (take i xs) → IsIn x xs
in-take xs zero x h = absurd h
in-take [] (suc i) x h = absurd h
in-take (y ∷ ys) (suc i) x (inl e) = inl e
in-take (y ∷ ys) (suc i) x (inr h) = inr (in-take ys i x h)

-- ---- one list more

pub next-push : (all : List (List ℕ)) (x : List ℕ) (u w : ℕ) → IsNext (all ++ x ∷ []) u w → IsNext all u w ⊎ ((u ≡ length all) × IsIn w x)
next-push [] x zero w n = inr (refl, subst (λ xs. IsIn w xs) (sym (some-inj n.1)) n.2)
  where
    some-inj : {a b : List ℕ} → Some a ≡ Some b → a ≡ b
    some-inj h = cc
next-push [] x (suc u) w n = absurd (none n.1)
  where
    none : {a : List ℕ} → None ≡ Some a → ⊥
    none h = absurd cc
next-push (y ∷ ys) x zero w n = inl n
next-push (y ∷ ys) x (suc u) w n = by (next-push ys x u w n)
  where
    by : IsNext ys u w ⊎ ((u ≡ length ys) × IsIn w x) → IsNext (y ∷ ys) (suc u) w ⊎ ((suc u ≡ length (y ∷ ys)) × IsIn w x)
    by (inl m) = inl m
    by (inr r) = inr (ap suc r.0, r.1)

pub lists-push : (all : List (Vec ℕ Global)) (x : Vec ℕ Global) → lists (all ++ x ∷ []) ≡ lists all ++ x.items ∷ []
lists-push [] x = refl
lists-push (y ∷ ys) x = ap (y.items ∷◌) (lists-push ys x)

length-lists : (all : List (Vec ℕ Global)) → length (lists all) ≡ length all
length-lists [] = refl
length-lists (y ∷ ys) = ap suc (length-lists ys)

pub one-list-more : (all : List (Vec ℕ Global)) (x : Vec ℕ Global) (u w : ℕ) → IsNext (lists (all ++ x ∷ [])) u w → IsNext (lists all) u w ⊎ ((u ≡ length all) × IsIn w x.items)
one-list-more all x u w n = by (next-push (lists all) x.items u w (subst (λ xs. IsNext xs u w) (lists-push all x) n))
  where
    by : IsNext (lists all) u w ⊎ ((u ≡ length (lists all)) × IsIn w x.items) → IsNext (lists all) u w ⊎ ((u ≡ length all) × IsIn w x.items)
    by (inl m) = inl m
    by (inr r) = inr (r.0 ∙ length-lists all, r.1)

-- ---- one type more in a list

pub next-set : (all : List (Vec ℕ Global)) (v t : ℕ) (old new : Vec ℕ Global) → v < length all → new.items ≡ (get_or all v old).items ++ t ∷ [] → (u w : ℕ) → IsNext (lists (set all v new)) u w → IsNext (lists all) u w ⊎ ((u ≡ v) × (w ≡ t))
next-set [] v t old new l e u w n = absurd (omega (arith, l))
next-set (x ∷ xs) zero t old new l e zero w n = by (in-end w x.items t (subst (λ ys. IsIn w ys) (sym (some-inj n.1) ∙ e) n.2))
  where
    some-inj : {a b : List ℕ} → Some a ≡ Some b → a ≡ b
    some-inj h = cc

    by : IsIn w x.items ⊎ (w ≡ t) → IsNext (lists (x ∷ xs)) zero w ⊎ ((zero ≡ zero) × (w ≡ t))
    by (inl i) = inl (x.items, refl, i)
    by (inr same) = inr (refl, same)
next-set (x ∷ xs) zero t old new l e (suc u) w n = inl n
next-set (x ∷ xs) (suc v) t old new l e zero w n = inl n
next-set (x ∷ xs) (suc v) t old new l e (suc u) w n = by (next-set xs v t old new (omega (arith, l)) e u w n)
  where
    by : IsNext (lists xs) u w ⊎ ((u ≡ v) × (w ≡ t)) → IsNext (lists (x ∷ xs)) (suc u) w ⊎ ((suc u ≡ suc v) × (w ≡ t))
    by (inl m) = inl m
    by (inr r) = inr (ap suc r.0, r.1)

-- ---- lists in order

in-all : (test : ℕ → Bool) (xs : List ℕ) → list_all test xs ≡ true → (x : ℕ) → IsIn x xs → test x ≡ true
in-all test [] e x i = absurd i
in-all test (y ∷ ys) e x i = by (test y) refl e i (in-all test ys)
  where
    by : (b : Bool) → test y ≡ b → (b && list_all test ys) ≡ true → IsIn x (y ∷ ys) → (list_all test ys ≡ true → (z : ℕ) → IsIn z ys → test z ≡ true) → test x ≡ true
    by true h f (inl same) again = ap test same ∙ h
    by true h f (inr j) again = again f x j
    by false h f j again = absurd (true≢false (sym f))

-- ---- loops that make lists

pub length-push : {X : Type 0} (xs : List X) (x : X) → length (xs ++ x ∷ []) ≡ length xs + 1
length-push [] x = refl
length-push (y ∷ ys) x = omega (arith, length-push ys x)

pub none-more : (all : List (Vec ℕ Global)) (x : Vec ℕ Global) → x.items ≡ [] → ((t u : ℕ) → IsNext (lists all) t u → ⊥) → (t u : ℕ) → IsNext (lists (all ++ x ∷ [])) t u → ⊥
none-more all x e none t u n = by (one-list-more all x t u n)
  where
    by : IsNext (lists all) t u ⊎ ((t ≡ length all) × IsIn u x.items) → ⊥
    by (inl m) = none t u m
    by (inr r) = absurd (subst (λ xs. IsIn u xs) e r.1)

pub inside-more : (firsts : List ℕ) (next all : List (Vec ℕ Global)) (same v : Vec ℕ Global) (t : ℕ) → AreInside firsts (lists next) (lists all) → length all ≡ t → t < length next → v ≡ get_or next t v → same.items ≡ filter (λ u. nat_eq (number_at firsts u) (number_at firsts t)) v.items → AreInside firsts (lists next) (lists (all ++ same ∷ []))
inside-more firsts next all same v t inside many l e f u w n = by (one-list-more all same u w n)
  where
    by : IsNext (lists all) u w ⊎ ((u ≡ length all) × IsIn w same.items) → IsNext (lists next) u w × (number_at firsts w ≡ number_at firsts u)
    by (inl m) = inside u w m
    by (inr r) =
        let i = in-filtered (λ x. nat_eq (number_at firsts x) (number_at firsts t)) w v.items (subst (λ xs. IsIn w xs) f r.1) in
        let at : u ≡ t = r.0 ∙ many in
        subst (λ x. IsNext (lists next) x w × (number_at firsts w ≡ number_at firsts x)) (sym at) ((v.items, next-read next t v l e, i.0), eqb-true (number_at firsts w) (number_at firsts t) i.1)

pub put-more : (types : List ℕ) (i d t : ℕ) (first old new : List (Vec ℕ Global)) → i < length types → ((u w : ℕ) → IsNext (lists old) u w → IsNext (lists first) u w ⊎ ((w ≡ t) × IsIn u (take i types))) → ((u w : ℕ) → IsNext (lists new) u w → IsNext (lists old) u w ⊎ ((u ≡ get_or types i d) × (w ≡ t))) → (u w : ℕ) → IsNext (lists new) u w → IsNext (lists first) u w ⊎ ((w ≡ t) × IsIn u (take (i + 1) types))
put-more types i d t first old new l before put u w n = by (put u w n)
  where
    more : IsNext (lists first) u w ⊎ ((w ≡ t) × IsIn u (take i types)) → IsNext (lists first) u w ⊎ ((w ≡ t) × IsIn u (take (i + 1) types))
    more (inl m) = inl m
    more (inr r) = inr (r.0, in-one-more types i d l u r.1)

    by : IsNext (lists old) u w ⊎ ((u ≡ get_or types i d) × (w ≡ t)) → IsNext (lists first) u w ⊎ ((w ≡ t) × IsIn u (take (i + 1) types))
    by (inl m) = more (before u w m)
    by (inr r) = inr (r.1, subst (λ x. IsIn x (take (i + 1) types)) (sym r.0) (in-last types i d l))

pub put-whole : (types : List ℕ) (i t : ℕ) (first new : List (Vec ℕ Global)) → ((u w : ℕ) → IsNext (lists new) u w → IsNext (lists first) u w ⊎ ((w ≡ t) × IsIn u (take i types))) → (u w : ℕ) → IsNext (lists new) u w → IsNext (lists first) u w ⊎ ((w ≡ t) × IsIn u types)
put-whole types i t first new put u w n = by (put u w n)
  where
    by : IsNext (lists first) u w ⊎ ((w ≡ t) × IsIn u (take i types)) → IsNext (lists first) u w ⊎ ((w ≡ t) × IsIn u types)
    by (inl m) = inl m
    by (inr r) = inr (r.0, in-take types i u r.1)

pub reversed-more : (next before new : List (Vec ℕ Global)) (v : Vec ℕ Global) (types : List ℕ) (t : ℕ) → AreReversed (lists next) (lists before) → t < length next → v ≡ get_or next t v → types ≡ v.items → ((u w : ℕ) → IsNext (lists new) u w → IsNext (lists before) u w ⊎ ((w ≡ t) × IsIn u types)) → AreReversed (lists next) (lists new)
reversed-more next before new v types t back l e same put u w n = by (put u w n)
  where
    by : IsNext (lists before) u w ⊎ ((w ≡ t) × IsIn u types) → IsNext (lists next) w u
    by (inl m) = back u w m
    by (inr r) = subst (λ x. IsNext (lists next) x u) (sym r.0) (v.items, next-read next t v l e, subst (λ xs. IsIn u xs) same r.1)

-- ---- tests of a first part of all types

pub first-said : (firsts : List ℕ) (tests : List Bool) (n : ℕ) → length tests ≡ n → ((u : ℕ) → u < n → says tests u ≡ nat_eq (number_at firsts u) u) → (t : ℕ) → IsTrue (says tests t) → number_at firsts t ≡ t
first-said firsts tests n many said t h = eqb-true (number_at firsts t) t (sym (said t (omega (arith, many, said-within tests t h))) ∙ h)

pub both-said : (a b tests : List Bool) (n : ℕ) → length tests ≡ n → ((u : ℕ) → u < n → says tests u ≡ (says a u && says b u)) → (t : ℕ) → IsTrue (says tests t) → IsTrue (says a t) × IsTrue (says b t)
both-said a b tests n many said t h = and-both (says a t) (says b t) (sym (said t (omega (arith, many, said-within tests t h))) ∙ h)

-- ---- lists in order

pub order-more : (next : List (Vec ℕ Global)) (places : List ℕ) (rings : List Bool) (types : List ℕ) (v : Vec ℕ Global) (t count place : ℕ) (ring : Bool) → t < length next → v ≡ get_or next t v → types ≡ v.items → count ≡ length next → place ≡ number_at places t → ring ≡ says rings t → list_all (comes_behind places count place ring) types ≡ true → (u : ℕ) → IsNext (lists next) t u → u < length (lists next) → (number_at places t ≤ number_at places u) × (says rings t ≡ false → number_at places t < number_at places u)
order-more next places rings types v t count place ring l e same many at in-ring all u n there =
    let i : IsIn u types = subst (λ xs. IsIn u xs) (sym same) (subst (λ xs. IsIn u xs) (some-inj (sym n.1 ∙ next-read next t v l e)) n.2) in
    by (nat_lt u count) (nat_lt place (number_at places u)) (nat_eq place (number_at places u)) ring refl refl refl refl (in-all (comes_behind places count place ring) types all u i)
  where
    some-inj : {a b : List ℕ} → Some a ≡ Some b → a ≡ b
    some-inj h = cc

    by : (known less equal r : Bool) → nat_lt u count ≡ known → nat_lt place (number_at places u) ≡ less → nat_eq place (number_at places u) ≡ equal → ring ≡ r → (not known || (less || (r && equal))) ≡ true → (number_at places t ≤ number_at places u) × (says rings t ≡ false → number_at places t < number_at places u)
    by false less equal r k m q s h = absurd (omega (arith, ltb-false u count k, there, many, length-lists next))
    by true true equal r k m q s h = (omega (arith, ltb-true place (number_at places u) m, at), λ f. omega (arith, ltb-true place (number_at places u) m, at))
    by true false true true k m q s h = (omega (arith, eqb-true place (number_at places u) q, at), λ f. absurd (true≢false (sym s ∙ (in-ring ∙ f))))
    by true false true false k m q s h = absurd (true≢false (sym h))
    by true false false true k m q s h = absurd (true≢false (sym h))
    by true false false false k m q s h = absurd (true≢false (sym h))

pub up-to : (X : ℕ → Type 0) (n : ℕ) → ((t : ℕ) → t < n → X t) → X n → (t : ℕ) → t < n + 1 → X t
up-to X n before last t l = by (nat_lt t n) refl
  where
    by : (b : Bool) → nat_lt t n ≡ b → X t
    by true e = before t (ltb-true t n e)
    by false e = let same : n ≡ t = omega (arith, ltb-false t n e, l) in subst X same last

pub next-within : (next : List (Vec ℕ Global)) (t u : ℕ) → IsNext (lists next) t u → t < length next
next-within next t u n = omega (arith, slice_get_within (lists next) t n.0 n.1, length-lists next)
