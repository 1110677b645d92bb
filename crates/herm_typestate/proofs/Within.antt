-- Trees whose marks are among those of others, place by place, or a mark that is not.
use Rattle.std.proofs.Common.{◌≡◌, ℕ, zero, suc, ◌+◌, ◌<◌, ◌≤◌, List, [], ◌∷◌, ◌++◌, length, Bool, true, false, cond, filter, ◌&&◌, ◌||◌, ◌⊎◌, inl, inr, nat_eq, get_or, refl, sym, ◌∙◌, ap, subst, arith}
use Rattle.std.proofs.lemmas.Bool.{eq-eqb, eqb-true, false≢true}
use Rattle.herm_model.specs.Lists.{any_pass}
use Rattle.herm_typestate.specs.declared.tree.Mark.{Mark}
use Rattle.herm_typestate.specs.declared.tree.Tree.{Tree, out-Tree}
use Rattle.herm_typestate.specs.Trees.{is_marked, tree_has, has_mark, IsWithin, IsBeyond}
use Rattle.herm_typestate.proofs.Marks.{at_place}
use Rattle.herm_typestate.proofs.Meets.{past, and_false}

pub any-append : (f : ℕ → Bool) (xs : List ℕ) (x : ℕ) → any_pass f (xs ++ x ∷ []) ≡ (any_pass f xs || f x)
any-append f [] x = or_false (f x)
  where
    or_false : (b : Bool) → (b || false) ≡ b
    or_false true = refl
    or_false false = refl
any-append f (y ∷ xs) x = ap (λ b. f y || b) (any-append f xs x) ∙ assoc (f y)
  where
    assoc : (a : Bool) → (a || (any_pass f xs || f x)) ≡ ((a || any_pass f xs) || f x)
    assoc true = refl
    assoc false = refl

pub any-read : (xs : List ℕ) (i : ℕ) → i < length xs → any_pass (nat_eq (get_or xs i 0)) xs ≡ true
any-read [] i h = absurd (omega arith)
any-read (x ∷ xs) zero h = ap (λ b. b || any_pass (nat_eq x) xs) (eq-eqb x x refl)
any-read (x ∷ xs) (suc i) h = either (nat_eq (get_or xs i 0) x) (any-read xs i (omega arith))
  where
    either : (b : Bool) → any_pass (nat_eq (get_or xs i 0)) xs ≡ true → (b || any_pass (nat_eq (get_or xs i 0)) xs) ≡ true
    either true e = refl
    either false e = e

-- each mark of the first trees is one of the others
abbrev pub AreWithin : List Tree → List Tree → ℕ → Type 0
AreWithin ts us i = (m : Mark) (j : ℕ) (q : List ℕ) → j < i → has_mark ts m (j ∷ q) ≡ true → has_mark us m (j ∷ q) ≡ true

pub within_next : (ts us : List Tree) (i : ℕ) (t : Tree) → AreWithin ts us i → i < length ts → t ≡ get_or ts i t → ((m : Mark) (q : List ℕ) → tree_has m q t ≡ true → has_mark us m (i ∷ q) ≡ true) → AreWithin ts us (i + 1)
within_next ts us i t h within e f m j q less has = by (same_or_before j)
  where
    same_or_before : (k : ℕ) → (i ≡ j) ⊎ (j < i)
    same_or_before k = grind arith

    by : (i ≡ j) ⊎ (j < i) → has_mark us m (j ∷ q) ≡ true
    by (inl same) = subst (λ k. has_mark us m (k ∷ q) ≡ true) same (f m q (sym (at_place ts i t within e m q) ∙ subst (λ k. has_mark ts m (k ∷ q) ≡ true) (sym same) has))
    by (inr before) = h m j q before has

pub all_within : (ts us : List Tree) (i : ℕ) → length ts ≤ i → AreWithin ts us i → IsWithin (has_mark ts) (has_mark us)
all_within ts us i whole h m [] has = absurd (false≢true has)
all_within ts us i whole h m (j ∷ q) has = by (below_or_not j i)
  where
    below_or_not : (a b : ℕ) → (a < b) ⊎ (b ≤ a)
    below_or_not a b = grind arith

    by : (j < i) ⊎ (i ≤ j) → has_mark us m (j ∷ q) ≡ true
    by (inl less) = h m j q less has
    by (inr above) = absurd (false≢true (sym (past ts m j q (omega arith)) ∙ has))

-- what a tree has where its own marks and those of its parts are among those of another
pub tree_within : (t : Tree) (T : Mark → List ℕ → Bool) → ((m : Mark) → is_marked t m ≡ true → T m [] ≡ true) → IsWithin (has_mark (out-Tree t).parts.items) T → (m : Mark) (q : List ℕ) → tree_has m q t ≡ true → T m q ≡ true
tree_within t T own parts m [] has = own m has
tree_within t T own parts m (j ∷ q) has = parts m (j ∷ q) has

-- a mark beyond at a place is one of all
pub beyond_at : (ts us : List Tree) (i : ℕ) (t : Tree) (m : Mark) (q : List ℕ) → i < length ts → t ≡ get_or ts i t → tree_has m q t ≡ true → has_mark us m (i ∷ q) ≡ false → IsBeyond (has_mark ts) (has_mark us)
beyond_at ts us i t m q within e has lacks = record { mark = m; path = i ∷ q; has = at_place ts i t within e m q ∙ has; lacks = lacks }

-- a mark beyond of a tree's parts is one of the tree
pub beyond_below : (ts us vs : List Tree) (i : ℕ) (t : Tree) → i < length ts → t ≡ get_or ts i t → IsBeyond (has_mark (out-Tree t).parts.items) (has_mark vs)
    → ((m : Mark) (j : ℕ) (q : List ℕ) → has_mark us m (i ∷ j ∷ q) ≡ has_mark vs m (j ∷ q)) → IsBeyond (has_mark ts) (has_mark us)
beyond_below ts us vs i t within e b f = by b.path b.has b.lacks
  where
    by : (p : List ℕ) → has_mark (out-Tree t).parts.items b.mark p ≡ true → has_mark vs b.mark p ≡ false → IsBeyond (has_mark ts) (has_mark us)
    by [] has lacks = absurd (false≢true has)
    by (j ∷ q) has lacks = beyond_at ts us i t b.mark (j ∷ q) within e has (f b.mark j q ∙ lacks)

-- what a filter by a second list keeps is what both have
pub kept_common : (k : ℕ) (xs ys : List ℕ) → any_pass (nat_eq k) (filter (λ x. any_pass (nat_eq x) ys) xs) ≡ (any_pass (nat_eq k) xs && any_pass (nat_eq k) ys)
kept_common k [] ys = refl
kept_common k (x ∷ xs) ys = by (any_pass (nat_eq x) ys) refl (nat_eq k x) refl (kept_common k xs ys)
  where
    by : (b : Bool) → any_pass (nat_eq x) ys ≡ b → (d : Bool) → nat_eq k x ≡ d → any_pass (nat_eq k) (filter (λ x. any_pass (nat_eq x) ys) xs) ≡ (any_pass (nat_eq k) xs && any_pass (nat_eq k) ys)
        → any_pass (nat_eq k) (cond b (x ∷ filter (λ x. any_pass (nat_eq x) ys) xs) (filter (λ x. any_pass (nat_eq x) ys) xs)) ≡ ((d || any_pass (nat_eq k) xs) && any_pass (nat_eq k) ys)
    by true e true f again = ap (λ a. a || any_pass (nat_eq k) (filter (λ x. any_pass (nat_eq x) ys) xs)) f ∙ sym (subst (λ z. any_pass (nat_eq z) ys ≡ true) (sym (eqb-true k x f)) e)
    by true e false f again = ap (λ a. a || any_pass (nat_eq k) (filter (λ x. any_pass (nat_eq x) ys) xs)) f ∙ again
    by false e true f again = let gone = subst (λ z. any_pass (nat_eq z) ys ≡ false) (sym (eqb-true k x f)) e in again ∙ (ap (λ a. any_pass (nat_eq k) xs && a) gone ∙ (and_false (any_pass (nat_eq k) xs) ∙ sym gone))
    by false e false f again = again

-- marks among those of a tree's parts are among those behind its place
pub parts_within : (ts us vs : List Tree) (i : ℕ) → IsWithin (has_mark ts) (has_mark vs) → ((m : Mark) (j : ℕ) (q : List ℕ) → has_mark us m (i ∷ j ∷ q) ≡ has_mark vs m (j ∷ q)) → IsWithin (has_mark ts) (λ m q. has_mark us m (i ∷ q))
parts_within ts us vs i h f m [] has = absurd (false≢true has)
parts_within ts us vs i h f m (j ∷ q) has = f m j q ∙ h m (j ∷ q) has
