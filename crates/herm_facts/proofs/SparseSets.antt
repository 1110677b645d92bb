-- Sets of numbers by words at places.
use Rattle.std.proofs.Common.{◌≡◌, ℕ, zero, suc, ◌+◌, ◌/◌, ◌%◌, ◌<◌, List, [], ◌∷◌, ◌++◌, length, take, Bool, true, false, not, ◌&&◌, ◌||◌, nat_eq, Some, slice_get, get_or, refl, sym, ◌∙◌, ap, ap₂, subst, arith}
use Rattle.std.proofs.lemmas.Bool.{eq-eqb, eqb-true, false≢true}
use Rattle.std.proofs.lemmas.List.{take_more}
use Rattle.herm_model.specs.Lists.{any_pass}
use Rattle.herm_model.proofs.Options.{some-injective}
use Rattle.herm_typestate.proofs.FactSets.{eq_turned}
use Rattle.herm_facts.specs.declared.sparse_set.WordAt.{WordAt}
use Rattle.herm_facts.specs.FactSets.{has}
use Rattle.herm_facts.specs.Numbers.{stand_once}
use Rattle.herm_facts.specs.SparseSets.{word_has, places_of}

-- ---- tests

pub or_false : (b : Bool) → (b || false) ≡ b
or_false true = refl
or_false false = refl

pub or_assoc : (a b c : Bool) → (a || (b || c)) ≡ ((a || b) || c)
or_assoc true b c = refl
or_assoc false b c = refl

-- one more between the two
pub or_between : (a m b : Bool) → (m || (a || b)) ≡ ((a || m) || b)
or_between true true b = refl
or_between true false b = refl
or_between false true b = refl
or_between false false b = refl

pub and_taken : (a b c : Bool) → ((a && not b) && not c) ≡ (a && not (b || c))
and_taken true true c = refl
and_taken true false c = refl
and_taken false b c = refl

-- neither where one of the two is not
or_left : (a b : Bool) → (a || b) ≡ false → a ≡ false
or_left true b e = e
or_left false b e = refl

or_right : (a b : Bool) → (a || b) ≡ false → b ≡ false
or_right true b e = absurd (false≢true (sym e))
or_right false b e = e

-- ---- lists

pub any-append : {X : Type 0} (test : X → Bool) (xs : List X) (x : X) → any_pass test (xs ++ x ∷ []) ≡ (any_pass test xs || test x)
any-append test [] x = or_false (test x)
any-append test (y ∷ xs) x = ap (λ b. test y || b) (any-append test xs x) ∙ or_assoc (test y) (any_pass test xs) (test x)

-- one element more of those before a place
pub any-next : {X : Type 0} (test : X → Bool) (xs : List X) (i : ℕ) (x : X) → i < length xs → x ≡ get_or xs i x → any_pass test (take (i + 1) xs) ≡ (any_pass test (take i xs) || test x)
any-next test xs i x within e = ap (any_pass test) (take_more xs i x within) ∙ (any-append test (take i xs) (get_or xs i x) ∙ ap (λ y. any_pass test (take i xs) || test y) (sym e))

pub any-before : {X : Type 0} (test : X → Bool) (xs : List X) (i : ℕ) → any_pass test (take i xs) ≡ true → any_pass test xs ≡ true
any-before test [] zero e = e
any-before test [] (suc i) e = e
any-before test (x ∷ xs) zero e = absurd (false≢true e)
any-before test (x ∷ xs) (suc i) e = by (test x) e (any-before test xs i)
  where
    by : (b : Bool) → (b || any_pass test (take i xs)) ≡ true → (any_pass test (take i xs) ≡ true → any_pass test xs ≡ true) → (b || any_pass test xs) ≡ true
    by true e again = refl
    by false e again = again e

-- what joined the words before a place is in one of them
pub joined-only : {X : Type 0} (old : Bool) (test : X → Bool) (xs ys : List X) (i : ℕ) → xs ≡ ys → (old || any_pass test (take i xs)) ≡ true → (old || any_pass test ys) ≡ true
joined-only true test xs ys i same e = refl
joined-only false test xs ys i same e = subst (λ zs. any_pass test zs ≡ true) same (any-before test xs i e)

pub own-item : {X : Type 0} (xs : List X) (i : ℕ) (d : X) → i < length xs → get_or xs i d ≡ get_or xs i (get_or xs i d)
own-item [] i d within = absurd (omega (arith, within))
own-item (x ∷ xs) zero d within = refl
own-item (x ∷ xs) (suc i) d within = own-item xs i d (omega (arith, within))

-- a set that has got what the elements before a place have, or lost it, and then that of the element there
pub joined-next : {X : Type 0} (old new before : Bool) (test : X → Bool) (xs : List X) (i : ℕ) (d : X) → i < length xs → new ≡ (before || test (get_or xs i d)) → before ≡ (old || any_pass test (take i xs)) → new ≡ (old || any_pass test (take (i + 1) xs))
joined-next old new before test xs i d within e f =
    e ∙ (ap (λ b. b || test (get_or xs i d)) f ∙ (sym (or_assoc old (any_pass test (take i xs)) (test (get_or xs i d))) ∙ ap (λ b. old || b) (sym (any-next test xs i (get_or xs i d) within (own-item xs i d within)))))

pub taken-next : {X : Type 0} (old new before : Bool) (test : X → Bool) (xs : List X) (i : ℕ) (d : X) → i < length xs → new ≡ (before && not (test (get_or xs i d))) → before ≡ (old && not (any_pass test (take i xs))) → new ≡ (old && not (any_pass test (take (i + 1) xs)))
taken-next old new before test xs i d within e f =
    e ∙ (ap (λ b. b && not (test (get_or xs i d))) f ∙ (and_taken old (any_pass test (take i xs)) (test (get_or xs i d)) ∙ ap (λ b. old && not b) (sym (any-next test xs i (get_or xs i d) within (own-item xs i d within)))))

-- a set that has the numbers of a list before a place, and then the one there
pub insert-next : (numbers : List ℕ) (i d n : ℕ) (new before old : Bool) → i < length numbers → new ≡ (nat_eq n (get_or numbers i d) || before) → before ≡ (any_pass (nat_eq n) (take i numbers) || old) → new ≡ (any_pass (nat_eq n) (take (i + 1) numbers) || old)
insert-next numbers i d n new before old within e f =
    e ∙ (ap (λ b. nat_eq n (get_or numbers i d) || b) f
    ∙ (or_between (any_pass (nat_eq n) (take i numbers)) (nat_eq n (get_or numbers i d)) old
    ∙ ap (λ b. b || old) (sym (any-next (nat_eq n) numbers i (get_or numbers i d) within (own-item numbers i d within)))))

-- ---- places

pub at-place : (ws : List WordAt) (i : ℕ) (w : WordAt) → i < length ws → w ≡ get_or ws i w → slice_get (places_of ws) i ≡ Some w.at
at-place [] i w within e = absurd (omega (arith, within))
at-place (v ∷ ws) zero w within e = ap (λ (u : WordAt). Some u.at) (sym e)
at-place (v ∷ ws) (suc i) w within e = at-place ws i w (omega (arith, within)) e

-- the place of what is read in the list
pub read-place : (ws : List WordAt) (i k : ℕ) (d : WordAt) → i < length ws → k ≡ (get_or ws i d).at → slice_get (places_of ws) i ≡ Some k
read-place ws i k d within e = at-place ws i (get_or ws i d) within (own-item ws i d within) ∙ ap Some (sym e)

pub place-at : (ws : List WordAt) (i k : ℕ) (w : WordAt) → i < length ws → w ≡ get_or ws i w → slice_get (places_of ws) i ≡ Some k → w.at ≡ k
place-at [] i k w within e f = absurd (omega (arith, within))
place-at (v ∷ ws) zero k w within e f = ap (λ (u : WordAt). u.at) e ∙ some-injective f
place-at (v ∷ ws) (suc i) k w within e f = place-at ws i k w (omega (arith, within)) e f

pub places-append : (ws : List WordAt) (w : WordAt) → places_of (ws ++ w ∷ []) ≡ places_of ws ++ w.at ∷ []
places-append [] w = refl
places-append (v ∷ ws) w = ap (λ ks. v.at ∷ ks) (places-append ws w)

-- no place before this one in the list
pub none-next : (ws : List WordAt) (i k : ℕ) (d : WordAt) → i < length ws → any_pass (nat_eq k) (places_of (take i ws)) ≡ false → (k ≡ (get_or ws i d).at → ⊥) → any_pass (nat_eq k) (places_of (take (i + 1) ws)) ≡ false
none-next ws i k d within none apart =
    ap (λ vs. any_pass (nat_eq k) (places_of vs)) (take_more ws i d within)
    ∙ (ap (any_pass (nat_eq k)) (places-append (take i ws) (get_or ws i d))
    ∙ (any-append (nat_eq k) (places_of (take i ws)) (get_or ws i d).at
    ∙ ap₂ ◌||◌ none (other (nat_eq k (get_or ws i d).at) refl)))
  where
    other : (b : Bool) → nat_eq k (get_or ws i d).at ≡ b → b ≡ false
    other true f = absurd (apart (eqb-true k (get_or ws i d).at f))
    other false f = refl

-- the first of numbers that stand once, and the others
once-first : (n : ℕ) (ns : List ℕ) → stand_once (n ∷ ns) ≡ true → any_pass (nat_eq n) ns ≡ false
once-first n ns e = by (any_pass (nat_eq n) ns) e
  where
    by : (b : Bool) → (not b && stand_once ns) ≡ true → b ≡ false
    by true e = absurd (false≢true e)
    by false e = refl

once-rest : (n : ℕ) (ns : List ℕ) → stand_once (n ∷ ns) ≡ true → stand_once ns ≡ true
once-rest n ns e = by (any_pass (nat_eq n) ns) e
  where
    by : (b : Bool) → (not b && stand_once ns) ≡ true → stand_once ns ≡ true
    by true e = absurd (false≢true e)
    by false e = e

-- a list of numbers that stand once, and another number
pub once-more : (ns : List ℕ) (n : ℕ) → stand_once ns ≡ true → any_pass (nat_eq n) ns ≡ false → stand_once (ns ++ n ∷ []) ≡ true
once-more [] n once none = refl
once-more (m ∷ ns) n once none =
    ap₂ (λ a b. not a && b)
    (any-append (nat_eq m) ns n ∙ ap₂ ◌||◌ (once-first m ns once) (eq_turned m n ∙ or_left (nat_eq n m) (any_pass (nat_eq n) ns) none))
    (once-more ns n (once-rest m ns once) (or_right (nat_eq n m) (any_pass (nat_eq n) ns) none))

-- where a word of another place is appended, the places stand once
pub pushed-once : (ws vs : List WordAt) (w : WordAt) → vs ≡ ws ++ w ∷ [] → stand_once (places_of ws) ≡ true → any_pass (nat_eq w.at) (places_of ws) ≡ false → stand_once (places_of vs) ≡ true
pushed-once ws vs w e once none = ap (λ us. stand_once (places_of us)) e ∙ (ap stand_once (places-append ws w) ∙ once-more (places_of ws) w.at once none)

-- no word stands at the place of the number
pub no-word : (n : ℕ) (ws : List WordAt) → any_pass (nat_eq (n / 64)) (places_of ws) ≡ false → any_pass (word_has n) ws ≡ false
no-word n [] none = refl
no-word n (w ∷ ws) none =
    ap₂ (λ a b. (a && has w.set (n % 64)) || b) (or_left (nat_eq (n / 64) w.at) (any_pass (nat_eq (n / 64)) (places_of ws)) none)
    (no-word n ws (or_right (nat_eq (n / 64) w.at) (any_pass (nat_eq (n / 64)) (places_of ws)) none))

none-at : (ws : List WordAt) (i k : ℕ) (v : WordAt) → i < length ws → v ≡ get_or ws i v → any_pass (nat_eq k) (places_of ws) ≡ false → nat_eq k v.at ≡ false
none-at [] i k v within e none = absurd (omega (arith, within))
none-at (w ∷ ws) zero k v within e none = ap (λ (u : WordAt). nat_eq k u.at) e ∙ or_left (nat_eq k w.at) (any_pass (nat_eq k) (places_of ws)) none
none-at (w ∷ ws) (suc i) k v within e none = none-at ws i k v (omega (arith, within)) e (or_right (nat_eq k w.at) (any_pass (nat_eq k) (places_of ws)) none)

-- the one word that stands at the place of the number
pub one-word : (n : ℕ) (ws : List WordAt) (i : ℕ) (v : WordAt) → stand_once (places_of ws) ≡ true → i < length ws → v ≡ get_or ws i v → v.at ≡ n / 64 → any_pass (word_has n) ws ≡ has v.set (n % 64)
one-word n [] i v once within e at = absurd (omega (arith, within))
one-word n (w ∷ ws) zero v once within e at =
    ap₂ (λ a b. (a && has w.set (n % 64)) || b) (eq-eqb (n / 64) w.at (sym at ∙ ap (λ (u : WordAt). u.at) e))
    (no-word n ws (subst (λ k. any_pass (nat_eq k) (places_of ws) ≡ false) (ap (λ (u : WordAt). u.at) (sym e) ∙ at) (once-first w.at (places_of ws) once)))
    ∙ (or_false (has w.set (n % 64)) ∙ ap (λ (u : WordAt). has u.set (n % 64)) (sym e))
one-word n (w ∷ ws) (suc i) v once within e at =
    ap (λ a. (a && has w.set (n % 64)) || any_pass (word_has n) ws) (eq_turned (n / 64) w.at ∙ subst (λ k. nat_eq w.at k ≡ false) at (none-at ws i w.at v (omega (arith, within)) e (once-first w.at (places_of ws) once)))
    ∙ one-word n ws i v (once-rest w.at (places_of ws) once) (omega (arith, within)) e at
