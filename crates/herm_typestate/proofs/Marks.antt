-- Which marks a tree has that is made or changed.
use Rattle.std.proofs.Common.{◌≡◌, ℕ, zero, suc, ◌<◌, List, [], ◌∷◌, ◌++◌, length, Bool, true, false, not, ◌&&◌, ◌||◌, nat_eq, Result, Ok, Err, OnErr, slice_set, get_or, refl, sym, ◌∙◌, ap, ap₂, subst, arith}
use Rattle.std.proofs.lemmas.Bool.{eq-eqb, eqb-true}
use Rattle.std.proofs.lemmas.Bool.Decides.{nat_tests}
use Rattle.std.proofs.lemmas.Option.{slice_get_read}
use Rattle.herm_model.specs.Lists.{any_pass, map_or}
use Rattle.herm_model.specs.Paths.{is_at_or_below, same_path}
use Rattle.herm_typestate.specs.declared.tree.Mark.{Mark}
use Rattle.herm_typestate.specs.declared.tree.Mark.TheVariants.{Here, Component}
use Rattle.herm_typestate.specs.declared.tree.Tree.{Tree, out-Tree, roll-Tree, out-roll-Tree}
use Rattle.herm_typestate.specs.declared.tree.Tree.TheOpen.{Tree-F}
use Rattle.herm_typestate.specs.Trees.{tree_has, has_mark, same_mark, is_mark_of}

-- what a tree has that is made of these fields
abbrev pub node_has : Mark → List ℕ → Tree-F Tree → Bool
node_has Here [] x = x.here
node_has (Component c) [] x = any_pass (nat_eq c) x.known.items
node_has m (i ∷ p) x = has_mark x.parts.items m (i ∷ p)

pub tree_of-fields : (x : Tree-F Tree) (m : Mark) (p : List ℕ) → tree_has m p (roll-Tree x) ≡ node_has m p x
tree_of-fields x Here [] = ap (λ y. y.here) (out-roll-Tree x)
tree_of-fields x (Component c) [] = ap (λ y. any_pass (nat_eq c) y.known.items) (out-roll-Tree x)
tree_of-fields x m (i ∷ p) = ap (λ y. has_mark y.parts.items m (i ∷ p)) (out-roll-Tree x)

pub no_trees : (ts : List Tree) → ts ≡ [] → (m : Mark) (p : List ℕ) → has_mark ts m p ≡ false
no_trees ts e m [] = refl
no_trees ts e m (i ∷ p) = ap (λ us. has_mark us m (i ∷ p)) e

pub no_marks : (x : Tree-F Tree) → x.here ≡ false → x.known.items ≡ [] → x.parts.items ≡ [] → (m : Mark) (p : List ℕ) → tree_has m p (roll-Tree x) ≡ false
no_marks x a b c m p = tree_of-fields x m p ∙ by m p
  where
    by : (m : Mark) (p : List ℕ) → node_has m p x ≡ false
    by Here [] = a
    by (Component k) [] = ap (any_pass (nat_eq k)) b
    by m (i ∷ p) = no_trees x.parts.items c m (i ∷ p)

-- the test of numbers
pub eq_self : (i : ℕ) → nat_eq i i ≡ true
eq_self i = eq-eqb i i refl

by_test : {A : Type 0} (i j : ℕ) (b : Bool) → nat_eq i j ≡ b → (i ≡ j → A) → (nat_eq i j ≡ false → A) → A
by_test i j true e f g = f (eqb-true i j e)
by_test i j false e f g = g e

pub set-has_same : (ts : List Tree) (i : ℕ) (u : Tree) (m : Mark) (q : List ℕ) → i < length ts → has_mark (slice_set ts i u) m (i ∷ q) ≡ tree_has m q u
set-has_same [] i u m q h = absurd (omega arith)
set-has_same (t ∷ ts) zero u m q h = refl
set-has_same (t ∷ ts) (suc i) u m q h = set-has_same ts i u m q (omega arith)

pub set-has_other : (ts : List Tree) (i : ℕ) (u : Tree) (m : Mark) (j : ℕ) (q : List ℕ) → nat_eq i j ≡ false → has_mark (slice_set ts i u) m (j ∷ q) ≡ has_mark ts m (j ∷ q)
set-has_other [] i u m j q h = refl
set-has_other (t ∷ ts) zero u m zero q h = cc (eq_self zero)
set-has_other (t ∷ ts) zero u m (suc j) q h = refl
set-has_other (t ∷ ts) (suc i) u m zero q h = refl
set-has_other (t ∷ ts) (suc i) u m (suc j) q h = set-has_other ts i u m j q (grind (arith, nat_tests))

-- a tree read at its place is what the first step chooses
pub at_place : (ts : List Tree) (i : ℕ) (t : Tree) → i < length ts → t ≡ get_or ts i t → (m : Mark) (q : List ℕ) → has_mark ts m (i ∷ q) ≡ tree_has m q t
at_place ts i t h e m q = ap (map_or false (tree_has m q)) (slice_get_read ts (length ts) i t refl h e)

pub no_rest : (rest : List ℕ) → length rest ≡ 0 → rest ≡ []
no_rest [] e = refl
no_rest (x ∷ rest) e = absurd (omega arith)

-- Where the tree at a place changes so that each mark behind it changes as F says, and F leaves the other places, each mark changes as F says.
pub changed : (F : Mark → List ℕ → Bool → Bool) (ts : List Tree) (i : ℕ) (u : Tree) → i < length ts
    → ((m : Mark) (q : List ℕ) → tree_has m q u ≡ F m (i ∷ q) (has_mark ts m (i ∷ q)))
    → ((m : Mark) (j : ℕ) (q : List ℕ) (b : Bool) → nat_eq i j ≡ false → F m (j ∷ q) b ≡ b)
    → ((m : Mark) → F m [] false ≡ false)
    → (m : Mark) (q : List ℕ) → has_mark (slice_set ts i u) m q ≡ F m q (has_mark ts m q)
changed F ts i u h here others root m [] = sym (root m)
changed F ts i u h here others root m (j ∷ q) = by_test i j (nat_eq i j) refl
    (λ e. subst (λ k. has_mark (slice_set ts i u) m (k ∷ q) ≡ F m (k ∷ q) (has_mark ts m (k ∷ q))) e (set-has_same ts i u m q h ∙ here m q))
    (λ e. set-has_other ts i u m j q e ∙ sym (others m j q (has_mark ts m (j ∷ q)) e))

-- no place is at or below a place apart from it
below_apart : (i j : ℕ) (p q : List ℕ) (b : Bool) → nat_eq i j ≡ false → (not (is_at_or_below (i ∷ p) (j ∷ q)) && b) ≡ b
below_apart i j p q b e = ap (λ x. not (x && is_at_or_below p q) && b) e

below_inside : (i : ℕ) (p q : List ℕ) → is_at_or_below (i ∷ p) (i ∷ q) ≡ is_at_or_below p q
below_inside i p q = ap (λ x. x && is_at_or_below p q) (eq_self i)

-- Where the tree at a place loses the marks at and below a path, the trees lose those at and below it from that place.
pub killed : (ts : List Tree) (i : ℕ) (p : List ℕ) (t u : Tree) → i < length ts → t ≡ get_or ts i t
    → ((m : Mark) (q : List ℕ) → tree_has m q u ≡ (not (is_at_or_below p q) && tree_has m q t))
    → (m : Mark) (q : List ℕ) → has_mark (slice_set ts i u) m q ≡ (not (is_at_or_below (i ∷ p) q) && has_mark ts m q)
killed ts i p t u h e inside = changed (λ m q b. not (is_at_or_below (i ∷ p) q) && b) ts i u h
    (λ m q. inside m q ∙ ap₂ (λ x b. not x && b) (sym (below_inside i p q)) (sym (at_place ts i t h e m q)))
    (λ m j q b. below_apart i j p q b)
    (λ m. refl)

-- Where the parts of a tree lose the marks at and below a path, so does the tree.
pub killed_below : (x : Tree-F Tree) (t : Tree) (i : ℕ) (p : List ℕ) → x.here ≡ (out-Tree t).here → x.known.items ≡ (out-Tree t).known.items
    → ((m : Mark) (q : List ℕ) → has_mark x.parts.items m q ≡ (not (is_at_or_below (i ∷ p) q) && has_mark (out-Tree t).parts.items m q))
    → (m : Mark) (q : List ℕ) → tree_has m q (roll-Tree x) ≡ (not (is_at_or_below (i ∷ p) q) && tree_has m q t)
killed_below x t i p a b inside m q = tree_of-fields x m q ∙ by m q
  where
    by : (m : Mark) (q : List ℕ) → node_has m q x ≡ (not (is_at_or_below (i ∷ p) q) && tree_has m q t)
    by Here [] = a
    by (Component c) [] = ap (any_pass (nat_eq c)) b
    by m (j ∷ q) = inside m (j ∷ q)

pub pushed : (ts : List Tree) (u : Tree) → ((m : Mark) (q : List ℕ) → tree_has m q u ≡ false) → (m : Mark) (q : List ℕ) → has_mark (ts ++ u ∷ []) m q ≡ has_mark ts m q
pushed ts u h m [] = refl
pushed [] u h m (zero ∷ q) = h m q
pushed [] u h m (suc j ∷ q) = refl
pushed (t ∷ ts) u h m (zero ∷ q) = refl
pushed (t ∷ ts) u h m (suc j ∷ q) = pushed ts u h m (j ∷ q)

same_behind : (x y : Tree) (xs ys : List Tree) → ((m : Mark) (q : List ℕ) → has_mark (x ∷ xs) m q ≡ has_mark (y ∷ ys) m q) → (m : Mark) (q : List ℕ) → has_mark xs m q ≡ has_mark ys m q
same_behind x y xs ys h m [] = refl
same_behind x y xs ys h m (j ∷ q) = h m (suc j ∷ q)

-- trees of the same marks with one more behind each
pub same_appended : (xs ys : List Tree) (u t : Tree) → length xs ≡ length ys → ((m : Mark) (q : List ℕ) → has_mark xs m q ≡ has_mark ys m q)
    → ((m : Mark) (q : List ℕ) → tree_has m q u ≡ tree_has m q t) → (m : Mark) (q : List ℕ) → has_mark (xs ++ u ∷ []) m q ≡ has_mark (ys ++ t ∷ []) m q
same_appended xs ys u t e h k m [] = refl
same_appended [] [] u t e h k m (zero ∷ q) = k m q
same_appended [] [] u t e h k m (suc j ∷ q) = refl
same_appended [] (y ∷ ys) u t e h k m (j ∷ q) = absurd (omega arith)
same_appended (x ∷ xs) [] u t e h k m (j ∷ q) = absurd (omega arith)
same_appended (x ∷ xs) (y ∷ ys) u t e h k m (zero ∷ q) = h m (zero ∷ q)
same_appended (x ∷ xs) (y ∷ ys) u t e h k m (suc j ∷ q) = same_appended xs ys u t (omega arith) (same_behind x y xs ys h) k m (j ∷ q)

pub same_tree : (x : Tree-F Tree) (t : Tree) → x.here ≡ (out-Tree t).here → ((c : ℕ) → any_pass (nat_eq c) x.known.items ≡ any_pass (nat_eq c) (out-Tree t).known.items)
    → ((m : Mark) (q : List ℕ) → has_mark x.parts.items m q ≡ has_mark (out-Tree t).parts.items m q) → (m : Mark) (q : List ℕ) → tree_has m q (roll-Tree x) ≡ tree_has m q t
same_tree x t a b h m q = tree_of-fields x m q ∙ by m q
  where
    by : (m : Mark) (q : List ℕ) → node_has m q x ≡ tree_has m q t
    by Here [] = a
    by (Component c) [] = b c
    by m (j ∷ q) = h m (j ∷ q)

mark_apart : (i j : ℕ) (p q : List ℕ) (n m : Mark) (b : Bool) → nat_eq i j ≡ false → (is_mark_of (i ∷ p) n m (j ∷ q) || b) ≡ b
mark_apart i j p q n m b e = ap (λ x. ((x && same_path p q) && same_mark n m) || b) e

mark_inside : (i : ℕ) (p q : List ℕ) (n m : Mark) → is_mark_of (i ∷ p) n m (i ∷ q) ≡ is_mark_of p n m q
mark_inside i p q n m = ap (λ x. (x && same_path p q) && same_mark n m) (eq_self i)

-- Where the tree at a place gets a mark at the end of a path, the trees get it at the end of the path from that place.
pub made : (ts : List Tree) (i : ℕ) (p : List ℕ) (n : Mark) (t u : Tree) → i < length ts → t ≡ get_or ts i t
    → ((m : Mark) (q : List ℕ) → tree_has m q u ≡ (is_mark_of p n m q || tree_has m q t))
    → (m : Mark) (q : List ℕ) → has_mark (slice_set ts i u) m q ≡ (is_mark_of (i ∷ p) n m q || has_mark ts m q)
made ts i p n t u h e inside = changed (λ m q b. is_mark_of (i ∷ p) n m q || b) ts i u h
    (λ m q. inside m q ∙ ap₂ (λ x b. x || b) (sym (mark_inside i p q n m)) (sym (at_place ts i t h e m q)))
    (λ m j q b. mark_apart i j p q n m b)
    (λ m. refl)

-- Where the parts of a tree get a mark, so does the tree.
pub made_below : (x : Tree-F Tree) (t : Tree) (i : ℕ) (p : List ℕ) (n : Mark) → x.here ≡ (out-Tree t).here → x.known.items ≡ (out-Tree t).known.items
    → ((m : Mark) (q : List ℕ) → has_mark x.parts.items m q ≡ (is_mark_of (i ∷ p) n m q || has_mark (out-Tree t).parts.items m q))
    → (m : Mark) (q : List ℕ) → tree_has m q (roll-Tree x) ≡ (is_mark_of (i ∷ p) n m q || tree_has m q t)
made_below x t i p n a b inside m q = tree_of-fields x m q ∙ by m q
  where
    by : (m : Mark) (q : List ℕ) → node_has m q x ≡ (is_mark_of (i ∷ p) n m q || tree_has m q t)
    by Here [] = a
    by (Component c) [] = ap (any_pass (nat_eq c)) b
    by m (j ∷ q) = inside m (j ∷ q)

-- a tree that is changed at a place to one of the same marks
pub same_changed : (ts : List Tree) (i : ℕ) (t u : Tree) → i < length ts → t ≡ get_or ts i t → ((m : Mark) (q : List ℕ) → tree_has m q u ≡ tree_has m q t)
    → (m : Mark) (q : List ℕ) → has_mark (slice_set ts i u) m q ≡ has_mark ts m q
same_changed ts i t u h e inside = changed (λ m q b. b) ts i u h (λ m q. inside m q ∙ sym (at_place ts i t h e m q)) (λ m j q b k. refl) (λ m. refl)

-- what holds in any case holds where the call failed
pub on_err : {T E P : Type 0} (r : Result T E) → P → OnErr r P
on_err (Ok x) p = tt
on_err (Err e) p = p
