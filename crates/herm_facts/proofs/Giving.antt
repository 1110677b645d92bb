-- The numbers that a tree gives which is made or changed.
use Rattle.std.proofs.Common.{◌≡◌, ℕ, zero, suc, ◌<◌, List, [], ◌∷◌, ◌++◌, length, Bool, true, false, cond, ◌&&◌, nat_eq, Option, None, slice_set, get_or, refl, sym, ◌∙◌, ap, ap₂, subst, arith}
use Rattle.std.proofs.lemmas.Bool.{eqb-true}
use Rattle.std.proofs.lemmas.Bool.Decides.{nat_tests}
use Rattle.std.proofs.lemmas.Option.{slice_get_read}
use Rattle.herm_model.specs.Lists.{map_or}
use Rattle.herm_model.specs.Paths.{same_path}
use Rattle.herm_typestate.proofs.Marks.{eq_self}
use Rattle.herm_facts.specs.declared.numbered.Known.{Known}
use Rattle.herm_facts.specs.declared.numbered.Numbered.{Numbered, out-Numbered, roll-Numbered, out-roll-Numbered}
use Rattle.herm_facts.specs.declared.numbered.Numbered.TheOpen.{Numbered-F}
use Rattle.herm_facts.specs.Numbers.{Numbers, no_numbers, own_numbers, numbers_in, numbers_at, with_number, given}

-- the test of numbers
pub by_test : {A : Type 0} (i j : ℕ) (b : Bool) → nat_eq i j ≡ b → (i ≡ j → A) → (nat_eq i j ≡ false → A) → A
by_test i j true e f g = f (eqb-true i j e)
by_test i j false e f g = g e

abbrev pub both_of : Option ℕ → List Known → Numbers
both_of h ks = record { here = h; known = ks }

-- what a tree gives that is made of these fields
abbrev pub fields_give : List ℕ → Numbered-F Numbered → Numbers
fields_give [] x = both_of x.here x.known.items
fields_give (i ∷ q) x = numbers_at x.parts.items (i ∷ q)

pub gives-fields : (x : Numbered-F Numbered) (q : List ℕ) → numbers_in q (roll-Numbered x) ≡ fields_give q x
gives-fields x [] = ap (λ y. both_of y.here y.known.items) (out-roll-Numbered x)
gives-fields x (i ∷ q) = ap (λ y. numbers_at y.parts.items (i ∷ q)) (out-roll-Numbered x)

pub no_trees : (ts : List Numbered) → ts ≡ [] → (q : List ℕ) → numbers_at ts q ≡ no_numbers
no_trees ts e [] = refl
no_trees ts e (i ∷ q) = ap (λ us. numbers_at us (i ∷ q)) e

pub gives_nothing : (x : Numbered-F Numbered) → x.here ≡ None → x.known.items ≡ [] → x.parts.items ≡ [] → (q : List ℕ) → numbers_in q (roll-Numbered x) ≡ no_numbers
gives_nothing x a b c q = gives-fields x q ∙ by q
  where
    by : (q : List ℕ) → fields_give q x ≡ no_numbers
    by [] = ap₂ both_of a b
    by (i ∷ q) = no_trees x.parts.items c (i ∷ q)

set-same : (ts : List Numbered) (i : ℕ) (u : Numbered) (q : List ℕ) → i < length ts → numbers_at (slice_set ts i u) (i ∷ q) ≡ numbers_in q u
set-same [] i u q h = absurd (omega arith)
set-same (t ∷ ts) zero u q h = refl
set-same (t ∷ ts) (suc i) u q h = set-same ts i u q (omega arith)

set-other : (ts : List Numbered) (i : ℕ) (u : Numbered) (j : ℕ) (q : List ℕ) → nat_eq i j ≡ false → numbers_at (slice_set ts i u) (j ∷ q) ≡ numbers_at ts (j ∷ q)
set-other [] i u j q h = refl
set-other (t ∷ ts) zero u zero q h = cc (eq_self zero)
set-other (t ∷ ts) zero u (suc j) q h = refl
set-other (t ∷ ts) (suc i) u zero q h = refl
set-other (t ∷ ts) (suc i) u (suc j) q h = set-other ts i u j q (grind (arith, nat_tests))

-- a tree read at its place is what the first step chooses
pub at_place : (ts : List Numbered) (i : ℕ) (t : Numbered) → i < length ts → t ≡ get_or ts i t → (q : List ℕ) → numbers_at ts (i ∷ q) ≡ numbers_in q t
at_place ts i t h e q = ap (map_or no_numbers (numbers_in q)) (slice_get_read ts (length ts) i t refl h e)

pub pushed : (ts : List Numbered) (u : Numbered) → ((q : List ℕ) → numbers_in q u ≡ no_numbers) → (q : List ℕ) → numbers_at (ts ++ u ∷ []) q ≡ numbers_at ts q
pushed ts u h [] = refl
pushed [] u h (zero ∷ q) = h q
pushed [] u h (suc j ∷ q) = refl
pushed (t ∷ ts) u h (zero ∷ q) = refl
pushed (t ∷ ts) u h (suc j ∷ q) = pushed ts u h (j ∷ q)

-- Where the tree at a place changes as F says behind it, and F leaves the other places, the trees change as F says.
changed : (F : List ℕ → Numbers → Numbers) (ts : List Numbered) (i : ℕ) (u : Numbered) → i < length ts
    → ((q : List ℕ) → numbers_in q u ≡ F (i ∷ q) (numbers_at ts (i ∷ q)))
    → ((j : ℕ) (q : List ℕ) (ns : Numbers) → nat_eq i j ≡ false → F (j ∷ q) ns ≡ ns)
    → F [] no_numbers ≡ no_numbers
    → (q : List ℕ) → numbers_at (slice_set ts i u) q ≡ F q (numbers_at ts q)
changed F ts i u h here others root [] = sym root
changed F ts i u h here others root (j ∷ q) = by_test i j (nat_eq i j) refl
    (λ e. subst (λ k. numbers_at (slice_set ts i u) (k ∷ q) ≡ F (k ∷ q) (numbers_at ts (k ∷ q))) e (set-same ts i u q h ∙ here q))
    (λ e. set-other ts i u j q e ∙ sym (others j q (numbers_at ts (j ∷ q)) e))

path_inside : (i : ℕ) (p q : List ℕ) → same_path (i ∷ p) (i ∷ q) ≡ same_path p q
path_inside i p q = ap (λ b. b && same_path p q) (eq_self i)

path_apart : (i j : ℕ) (p q : List ℕ) (m : Option ℕ) (n : ℕ) (ns : Numbers) → nat_eq i j ≡ false → given (i ∷ p) m n (j ∷ q) ns ≡ ns
path_apart i j p q m n ns e = ap (λ b. cond (b && same_path p q) (with_number m n ns) ns) e

-- Where the tree at a place gets a number at the end of a path, the trees get it at the end of the path from that place.
pub gave : (ts : List Numbered) (i : ℕ) (p : List ℕ) (m : Option ℕ) (n : ℕ) (t u : Numbered) → i < length ts → t ≡ get_or ts i t
    → ((q : List ℕ) → numbers_in q u ≡ given p m n q (numbers_in q t))
    → (q : List ℕ) → numbers_at (slice_set ts i u) q ≡ given (i ∷ p) m n q (numbers_at ts q)
gave ts i p m n t u h e inside = changed (given (i ∷ p) m n) ts i u h
    (λ q. inside q ∙ ap₂ (λ b ns. cond b (with_number m n ns) ns) (sym (path_inside i p q)) (sym (at_place ts i t h e q)))
    (λ j q ns. path_apart i j p q m n ns)
    refl

-- Where the parts of a tree get a number, so does the tree.
pub gave_below : (x : Numbered-F Numbered) (t : Numbered) (i : ℕ) (p : List ℕ) (m : Option ℕ) (n : ℕ) → x.here ≡ (out-Numbered t).here → x.known.items ≡ (out-Numbered t).known.items
    → ((q : List ℕ) → numbers_at x.parts.items q ≡ given (i ∷ p) m n q (numbers_at (out-Numbered t).parts.items q))
    → (q : List ℕ) → numbers_in q (roll-Numbered x) ≡ given (i ∷ p) m n q (numbers_in q t)
gave_below x t i p m n a b inside q = gives-fields x q ∙ by q
  where
    by : (q : List ℕ) → fields_give q x ≡ given (i ∷ p) m n q (numbers_in q t)
    by [] = ap₂ both_of a b
    by (j ∷ q) = inside (j ∷ q)

-- a tree that gets a number of its own
pub gave_own : (x : Numbered-F Numbered) (t : Numbered) (m : Option ℕ) (n : ℕ) → both_of x.here x.known.items ≡ with_number m n (own_numbers t)
    → ((q : List ℕ) → numbers_at x.parts.items q ≡ numbers_at (out-Numbered t).parts.items q)
    → (q : List ℕ) → numbers_in q (roll-Numbered x) ≡ given [] m n q (numbers_in q t)
gave_own x t m n own same q = gives-fields x q ∙ by q
  where
    by : (q : List ℕ) → fields_give q x ≡ given [] m n q (numbers_in q t)
    by [] = own
    by (j ∷ q) = same (j ∷ q)

pub same_tree : (x : Numbered-F Numbered) (t : Numbered) → x.here ≡ (out-Numbered t).here → x.known.items ≡ (out-Numbered t).known.items
    → ((q : List ℕ) → numbers_at x.parts.items q ≡ numbers_at (out-Numbered t).parts.items q) → (q : List ℕ) → numbers_in q (roll-Numbered x) ≡ numbers_in q t
same_tree x t a b same q = gives-fields x q ∙ by q
  where
    by : (q : List ℕ) → fields_give q x ≡ numbers_in q t
    by [] = ap₂ both_of a b
    by (j ∷ q) = same (j ∷ q)

-- a tree that is changed at a place to one that gives the same
pub same_changed : (ts : List Numbered) (i : ℕ) (t u : Numbered) → i < length ts → t ≡ get_or ts i t → ((q : List ℕ) → numbers_in q u ≡ numbers_in q t)
    → (q : List ℕ) → numbers_at (slice_set ts i u) q ≡ numbers_at ts q
same_changed ts i t u h e inside = changed (λ q ns. ns) ts i u h (λ q. inside q ∙ sym (at_place ts i t h e q)) (λ j q ns k. refl) refl
