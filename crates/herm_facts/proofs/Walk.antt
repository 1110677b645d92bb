-- The numbers that a walk over trees adds to a list.
use Rattle.std.proofs.Common.{◌≡◌, ◌⊎◌, inl, inr, ℕ, ◌+◌, ◌<◌, ◌≤◌, List, [], ◌∷◌, ◌++◌, length, true, false, ◌&&◌, nat_eq, get_or, refl, sym, ◌∙◌, ap, subst, arith, append_assoc}
use Rattle.std.proofs.lemmas.Bool.{false≢true}
use Rattle.std.proofs.lemmas.Bool.Decides.{nat_tests}
use Rattle.std.proofs.lemmas.List.{append-nil}
use Rattle.std.proofs.lemmas.Option.{slice_get_past}
use Rattle.herm_model.specs.Lists.{IsIn, map_or}
use Rattle.herm_model.specs.Statements.{Differ}
use Rattle.herm_model.specs.Paths.{is_at_or_below}
use Rattle.herm_model.proofs.Lists.{in-append_left, in-append_right, in-append_cases, cons-head, cons-tail, cons-not_nil, joined-Differ}
use Rattle.herm_typestate.proofs.Marks.{eq_self}
use Rattle.herm_facts.specs.declared.numbered.Numbered.{Numbered, out-Numbered}
use Rattle.herm_facts.specs.Numbers.{no_numbers, all_numbers, own_numbers, numbers_in, numbers_at, AreOnce, Appends, Adds}
use Rattle.herm_facts.proofs.Giving.{at_place, by_test}

-- the number stands in the tree, or in the trees
abbrev pub InTree : Numbered → ℕ → Type 0
InTree t n = (q : List ℕ) × IsIn n (all_numbers (numbers_in q t))

abbrev pub InTrees : List Numbered → ℕ → Type 0
InTrees ts n = (q : List ℕ) × IsIn n (all_numbers (numbers_at ts q))

-- in the trees before a place
abbrev pub Before : List Numbered → ℕ → ℕ → Type 0
Before ts i n = (j : ℕ) × (q : List ℕ) × (j < i) × IsIn n (all_numbers (numbers_at ts (j ∷ q)))

-- at the end of the path or below
abbrev pub Below : List Numbered → List ℕ → ℕ → Type 0
Below ts p n = (q : List ℕ) × (is_at_or_below p q ≡ true) × IsIn n (all_numbers (numbers_at ts q))

pub appends_same : (S T : Type 0) (P Q : ℕ → Type 0) (xs ys : List ℕ) → (T → S) → ((n : ℕ) → P n → Q n) → ((n : ℕ) → Q n → P n) → Appends S P xs ys → Appends T Q xs ys
appends_same S T P Q xs ys s f g h = record {
  added = h.added;
  behind = h.behind;
  each = λ n. (λ m. f n ((h.each n).0 m), λ m. (h.each n).1 (g n m));
  once = λ t. h.once (s t);
}

pub appends_none : (S : Type 0) (P : ℕ → Type 0) (xs : List ℕ) → ((n : ℕ) → P n → ⊥) → Appends S P xs xs
appends_none S P xs none = record {
  added = [];
  behind = sym (append-nil xs);
  each = λ n. (λ m. absurd m, λ m. absurd (none n m));
  once = λ s. tt;
}

pub appends_then : (S T U : Type 0) (P Q : ℕ → Type 0) (xs ys zs : List ℕ) → (U → S) → (U → T) → (U → (n : ℕ) → P n → Q n → ⊥) → Appends S P xs ys → Appends T Q ys zs → Appends U (λ n. P n ⊎ Q n) xs zs
appends_then S T U P Q xs ys zs s t apart f g = record {
  added = f.added ++ g.added;
  behind = g.behind ∙ (ap (λ l. l ++ g.added) f.behind ∙ append_assoc xs f.added g.added);
  each = λ n. (λ m. there n (in-append_cases n f.added g.added m), λ m. back n m);
  once = λ u. joined-Differ f.added g.added (f.once (s u)) (g.once (t u)) (λ n a b. apart u n ((f.each n).0 a) ((g.each n).0 b));
}
  where
    there : (n : ℕ) → IsIn n f.added ⊎ IsIn n g.added → P n ⊎ Q n
    there n (inl a) = inl ((f.each n).0 a)
    there n (inr b) = inr ((g.each n).0 b)

    back : (n : ℕ) → P n ⊎ Q n → IsIn n (f.added ++ g.added)
    back n (inl a) = in-append_left n f.added g.added ((f.each n).1 a)
    back n (inr b) = in-append_right n f.added g.added ((g.each n).1 b)

pub appends_list : (S : Type 0) (xs ys more : List ℕ) → (S → Differ more) → ys ≡ xs ++ more → Appends S (λ n. IsIn n more) xs ys
appends_list S xs ys more differ e = record { added = more; behind = e; each = λ n. (λ m. m, λ m. m); once = differ }

-- what is appended is added
pub appended : (S : Type 0) (P : ℕ → Type 0) (xs ys : List ℕ) → Appends S P xs ys → Adds P xs ys
appended S P xs ys h n = (λ m. there (in-append_cases n xs h.added (subst (IsIn n) h.behind m)), λ m. subst (IsIn n) (sym h.behind) (back m))
  where
    there : IsIn n xs ⊎ IsIn n h.added → IsIn n xs ⊎ P n
    there (inl a) = inl a
    there (inr b) = inr ((h.each n).0 b)

    back : IsIn n xs ⊎ P n → IsIn n (xs ++ h.added)
    back (inl a) = in-append_left n xs h.added a
    back (inr b) = in-append_right n xs h.added ((h.each n).1 b)

-- ---- no number twice

abbrev pub TreeOnce : Numbered → Type 0
TreeOnce t = AreOnce (λ q. numbers_in q t)

abbrev pub TreesOnce : List Numbered → Type 0
TreesOnce ts = AreOnce (numbers_at ts)

pub once_parts : (t : Numbered) → TreeOnce t → TreesOnce (out-Numbered t).parts.items
once_parts t o = record { apart = apart; once = once }
  where
    apart : (q r : List ℕ) (n : ℕ) → IsIn n (all_numbers (numbers_at (out-Numbered t).parts.items q)) → IsIn n (all_numbers (numbers_at (out-Numbered t).parts.items r)) → q ≡ r
    apart [] r n a b = absurd a
    apart (j ∷ q) [] n a b = absurd b
    apart (j ∷ q) (k ∷ r) n a b = o.apart (j ∷ q) (k ∷ r) n a b

    once : (q : List ℕ) → Differ (all_numbers (numbers_at (out-Numbered t).parts.items q))
    once [] = tt
    once (j ∷ q) = o.once (j ∷ q)

pub once_at : (ts : List Numbered) (i : ℕ) (t : Numbered) → i < length ts → t ≡ get_or ts i t → TreesOnce ts → TreeOnce t
once_at ts i t within e o = record {
  apart = λ q r n a b. cons-tail (o.apart (i ∷ q) (i ∷ r) n (subst (λ ns. IsIn n (all_numbers ns)) (sym (at_place ts i t within e q)) a) (subst (λ ns. IsIn n (all_numbers ns)) (sym (at_place ts i t within e r)) b));
  once = λ q. subst (λ ns. Differ (all_numbers ns)) (at_place ts i t within e q) (o.once (i ∷ q));
}

-- a tree's own numbers, and those of its parts
pub tree_added : (t : Numbered) (xs ys zs : List ℕ) → ys ≡ xs ++ all_numbers (own_numbers t) → Appends (TreesOnce (out-Numbered t).parts.items) (InTrees (out-Numbered t).parts.items) ys zs → Appends (TreeOnce t) (InTree t) xs zs
tree_added t xs ys zs e h =
    appends_same (TreeOnce t) (TreeOnce t) (λ n. IsIn n (all_numbers (own_numbers t)) ⊎ InTrees (out-Numbered t).parts.items n) (InTree t) xs zs (λ o. o) join (λ n m. part n m.0 m.1)
    (appends_then (TreeOnce t) (TreesOnce (out-Numbered t).parts.items) (TreeOnce t) (λ n. IsIn n (all_numbers (own_numbers t))) (InTrees (out-Numbered t).parts.items) xs ys zs (λ o. o) (once_parts t) (λ o n a m. apart o n a m.0 m.1)
    (appends_list (TreeOnce t) xs ys (all_numbers (own_numbers t)) (λ o. o.once []) e) h)
  where
    apart : TreeOnce t → (n : ℕ) → IsIn n (all_numbers (own_numbers t)) → (q : List ℕ) → IsIn n (all_numbers (numbers_at (out-Numbered t).parts.items q)) → ⊥
    apart o n a [] m = m
    apart o n a (j ∷ q) m = cons-not_nil j q (sym (o.apart [] (j ∷ q) n a m))

    below : (n : ℕ) (q : List ℕ) → IsIn n (all_numbers (numbers_at (out-Numbered t).parts.items q)) → InTree t n
    below n [] m = absurd m
    below n (j ∷ q) m = (j ∷ q, m)

    join : (n : ℕ) → IsIn n (all_numbers (own_numbers t)) ⊎ InTrees (out-Numbered t).parts.items n → InTree t n
    join n (inl m) = ([], m)
    join n (inr m) = below n m.0 m.1

    part : (n : ℕ) (q : List ℕ) → IsIn n (all_numbers (numbers_in q t)) → IsIn n (all_numbers (own_numbers t)) ⊎ InTrees (out-Numbered t).parts.items n
    part n [] m = inl m
    part n (j ∷ q) m = inr (j ∷ q, m)

pub none_before : (ts : List Numbered) (xs : List ℕ) → Appends (TreesOnce ts) (Before ts 0) xs xs
none_before ts xs = appends_none (TreesOnce ts) (Before ts 0) xs (λ n m. let less : m.0 < 0 = m.2 in omega (arith, less))

-- the trees before a place, and the one there
pub before_next : (ts : List Numbered) (i : ℕ) (t : Numbered) (xs ys zs : List ℕ) → i < length ts → t ≡ get_or ts i t → Appends (TreesOnce ts) (Before ts i) xs ys → Appends (TreeOnce t) (InTree t) ys zs → Appends (TreesOnce ts) (Before ts (i + 1)) xs zs
before_next ts i t xs ys zs within e f g =
    appends_same (TreesOnce ts) (TreesOnce ts) (λ n. Before ts i n ⊎ InTree t n) (Before ts (i + 1)) xs zs (λ o. o) join (λ n m. part n m.0 m.1 m.2 m.3)
    (appends_then (TreesOnce ts) (TreeOnce t) (TreesOnce ts) (Before ts i) (InTree t) xs ys zs (λ o. o) (once_at ts i t within e) (λ o n a b. apart o n a b) f g)
  where
    apart : TreesOnce ts → (n : ℕ) → Before ts i n → InTree t n → ⊥
    apart o n a b =
        let less : a.0 < i = a.2 in
        let same : a.0 ≡ i = cons-head (o.apart (a.0 ∷ a.1) (i ∷ b.0) n a.3 (subst (λ ns. IsIn n (all_numbers ns)) (sym (at_place ts i t within e b.0)) b.1)) in
        omega (arith, less, same)

    join : (n : ℕ) → Before ts i n ⊎ InTree t n → Before ts (i + 1) n
    join n (inl m) = let less : m.0 < i = m.2 in (m.0, m.1, omega (arith, less), m.3)
    join n (inr m) = (i, m.0, omega arith, subst (λ ns. IsIn n (all_numbers ns)) (sym (at_place ts i t within e m.0)) m.1)

    part : (n j : ℕ) (q : List ℕ) → j < i + 1 → IsIn n (all_numbers (numbers_at ts (j ∷ q))) → Before ts i n ⊎ InTree t n
    part n j q less m = by_test i j (nat_eq i j) refl
        (λ same. inr (q, subst (λ ns. IsIn n (all_numbers ns)) (at_place ts i t within e q) (subst (λ k. IsIn n (all_numbers (numbers_at ts (k ∷ q)))) (sym same) m)))
        (λ apart. inl (j, q, nearer apart, m))
      where
        nearer : nat_eq i j ≡ false → j < i
        nearer apart = grind (arith, nat_tests)

past : (ts : List Numbered) (j : ℕ) (q : List ℕ) → length ts ≤ j → numbers_at ts (j ∷ q) ≡ no_numbers
past ts j q h = ap (map_or no_numbers (numbers_in q)) (slice_get_past ts j h)

pub all_before : (ts : List Numbered) (i : ℕ) (xs ys : List ℕ) → length ts ≤ i → Appends (TreesOnce ts) (Before ts i) xs ys → Appends (TreesOnce ts) (InTrees ts) xs ys
all_before ts i xs ys whole h = appends_same (TreesOnce ts) (TreesOnce ts) (Before ts i) (InTrees ts) xs ys (λ o. o) (λ n m. (m.0 ∷ m.1, m.3)) (λ n m. back n m.0 m.1) h
  where
    back : (n : ℕ) (q : List ℕ) → IsIn n (all_numbers (numbers_at ts q)) → Before ts i n
    back n [] m = absurd m
    back n (j ∷ q) m = by (less_or_past j i)
      where
        less_or_past : (a b : ℕ) → (a < b) ⊎ (b ≤ a)
        less_or_past a b = grind arith

        by : (j < i) ⊎ (i ≤ j) → Before ts i n
        by (inl less) = (j, q, less, m)
        by (inr far) = absurd (subst (λ ns. IsIn n (all_numbers ns)) (past ts j q (omega (arith, whole, far))) m)

below_inside : (i : ℕ) (p q : List ℕ) → is_at_or_below (i ∷ p) (i ∷ q) ≡ is_at_or_below p q
below_inside i p q = ap (λ x. x && is_at_or_below p q) (eq_self i)

-- what stands at or below a path of the tree at a place
pub placed : (ts : List Numbered) (i : ℕ) (t : Numbered) (p xs ys : List ℕ) → i < length ts → t ≡ get_or ts i t
    → Appends (TreeOnce t) (λ n. (q : List ℕ) × (is_at_or_below p q ≡ true) × IsIn n (all_numbers (numbers_in q t))) xs ys → Appends (TreesOnce ts) (Below ts (i ∷ p)) xs ys
placed ts i t p xs ys within e h = appends_same (TreeOnce t) (TreesOnce ts) _ (Below ts (i ∷ p)) xs ys (once_at ts i t within e)
    (λ n m. (i ∷ m.0, below_inside i p m.0 ∙ m.1, subst (λ ns. IsIn n (all_numbers ns)) (sym (at_place ts i t within e m.0)) m.2))
    (λ n m. back n m.0 m.1 m.2) h
  where
    back : (n : ℕ) (q : List ℕ) → is_at_or_below (i ∷ p) q ≡ true → IsIn n (all_numbers (numbers_at ts q)) → (q : List ℕ) × (is_at_or_below p q ≡ true) × IsIn n (all_numbers (numbers_in q t))
    back n [] f m = absurd m
    back n (j ∷ q) f m = by_test i j (nat_eq i j) refl
        (λ same. (
          q,
          sym (below_inside i p q) ∙ subst (λ k. is_at_or_below (i ∷ p) (k ∷ q) ≡ true) (sym same) f,
          subst (λ ns. IsIn n (all_numbers ns)) (at_place ts i t within e q) (subst (λ k. IsIn n (all_numbers (numbers_at ts (k ∷ q)))) (sym same) m),
        ))
        (λ apart. absurd (false≢true (sym (ap (λ x. x && is_at_or_below p q) apart) ∙ f)))

pub placed_here : (ts : List Numbered) (i : ℕ) (t : Numbered) (xs ys : List ℕ) → i < length ts → t ≡ get_or ts i t → Appends (TreeOnce t) (InTree t) xs ys → Appends (TreesOnce ts) (Below ts (i ∷ [])) xs ys
placed_here ts i t xs ys within e h = placed ts i t [] xs ys within e (appends_same (TreeOnce t) (TreeOnce t) (InTree t) _ xs ys (λ o. o) (λ n m. (m.0, refl, m.1)) (λ n m. (m.0, m.2)) h)

pub placed_below : (ts : List Numbered) (i : ℕ) (t : Numbered) (k : ℕ) (p xs ys : List ℕ) → i < length ts → t ≡ get_or ts i t → Appends (TreesOnce (out-Numbered t).parts.items) (Below (out-Numbered t).parts.items (k ∷ p)) xs ys → Appends (TreesOnce ts) (Below ts (i ∷ k ∷ p)) xs ys
placed_below ts i t k p xs ys within e h = placed ts i t (k ∷ p) xs ys within e (appends_same (TreesOnce (out-Numbered t).parts.items) (TreeOnce t) (Below (out-Numbered t).parts.items (k ∷ p)) _ xs ys (once_parts t) (λ n m. there n m.0 m.1 m.2) (λ n m. back n m.0 m.1 m.2) h)
  where
    there : (n : ℕ) (q : List ℕ) → is_at_or_below (k ∷ p) q ≡ true → IsIn n (all_numbers (numbers_at (out-Numbered t).parts.items q)) → (q : List ℕ) × (is_at_or_below (k ∷ p) q ≡ true) × IsIn n (all_numbers (numbers_in q t))
    there n [] f m = absurd m
    there n (j ∷ q) f m = (j ∷ q, f, m)

    back : (n : ℕ) (q : List ℕ) → is_at_or_below (k ∷ p) q ≡ true → IsIn n (all_numbers (numbers_in q t)) → Below (out-Numbered t).parts.items (k ∷ p) n
    back n [] f m = absurd (false≢true f)
    back n (j ∷ q) f m = (j ∷ q, f, m)

-- nothing stands below a place behind the last tree
pub nothing_there : (ts : List Numbered) (i : ℕ) (p xs : List ℕ) → length ts ≤ i → Appends (TreesOnce ts) (Below ts (i ∷ p)) xs xs
nothing_there ts i p xs far = appends_none (TreesOnce ts) (Below ts (i ∷ p)) xs (λ n m. by n m.0 m.1 m.2)
  where
    by : (n : ℕ) (q : List ℕ) → is_at_or_below (i ∷ p) q ≡ true → IsIn n (all_numbers (numbers_at ts q)) → ⊥
    by n [] f m = absurd m
    by n (j ∷ q) f m = by_test i j (nat_eq i j) refl
        (λ same. absurd (subst (λ ns. IsIn n (all_numbers ns)) (past ts j q (subst (λ k. length ts ≤ k) same far)) m))
        (λ apart. absurd (false≢true (sym (ap (λ x. x && is_at_or_below p q) apart) ∙ f)))
