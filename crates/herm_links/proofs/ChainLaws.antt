-- Chains of nodes: taken apart, joined, and kept where other nodes change.
use Rattle.std.specs.Prelude.{◌≡◌, ◌≢◌, ℕ, zero, suc, ◌≤◌, List, [], ◌∷◌, ◌++◌, length, Option, Some, None, option_map, refl}
use Rattle.std.proofs.Common.{sym, ◌∙◌, ap, subst, arith}
use Rattle.herm_links.specs.declared.nodes.Node.{Node}
use Rattle.herm_links.specs.Chains.{node_of, with_next, with_prev, KeepsOthers, IsChangedAt, IsNextSet, IsPrevSet, first_or, last_or, IsChain, IsFree, AreDistinct, on_node, walk}

turned : (a b : ℕ) → a ≢ b → b ≢ a
turned a b apart = λ e. apart (sym e)

module _ {T : Type 0} where
  pub first-append : (xs ys : List (ℕ × T)) (behind : Option ℕ)
      → first_or (xs ++ ys) behind ≡ first_or xs (first_or ys behind)
  first-append [] ys behind = refl
  first-append (x ∷ xs) ys behind = refl

  pub last-append : (xs ys : List (ℕ × T)) (before : Option ℕ)
      → last_or before (xs ++ ys) ≡ last_or (last_or before xs) ys
  last-append [] ys before = refl
  last-append (x ∷ xs) ys before = last-append xs ys (Some x.0)

  -- a node that is not the last has the one that is last of the others
  pub last-there : (xs : List (ℕ × T)) (key : ℕ) → (p : ℕ) × (last_or (Some key) xs ≡ Some p)
  last-there [] key = (key, refl)
  last-there (x ∷ xs) key = last-there xs x.0

  pub free-split : (xs ys : List (ℕ × T)) (key : ℕ) → IsFree key (xs ++ ys) → IsFree key xs × IsFree key ys
  free-split [] ys key free = (tt, free)
  free-split (x ∷ xs) ys key free =
      let rest = free-split xs ys key free.1 in ((free.0, rest.0), rest.1)

  pub free-join : (xs ys : List (ℕ × T)) (key : ℕ) → IsFree key xs → IsFree key ys → IsFree key (xs ++ ys)
  free-join [] ys key left right = right
  free-join (x ∷ xs) ys key left right = (left.0, free-join xs ys key left.1 right)

  -- of nodes that differ one is none of the others, and these differ
  pub distinct-split : (xs ys : List (ℕ × T)) (entry : ℕ × T) → AreDistinct (xs ++ entry ∷ ys)
      → IsFree entry.0 xs × IsFree entry.0 ys × AreDistinct (xs ++ ys)
  distinct-split [] ys entry distinct = (tt, distinct.0, distinct.1)
  distinct-split (x ∷ xs) ys entry distinct =
      let told = distinct-split xs ys entry distinct.1 in
      let parts = free-split xs (entry ∷ ys) x.0 distinct.0 in (
        (turned entry.0 x.0 parts.1.0, told.0),
        told.1,
        (free-join xs ys x.0 parts.0 parts.1.1, told.2),
      )

  pub distinct-push : (xs : List (ℕ × T)) (entry : ℕ × T) → AreDistinct xs → IsFree entry.0 xs
      → AreDistinct (xs ++ entry ∷ [])
  distinct-push [] entry distinct free = (tt, tt)
  distinct-push (x ∷ xs) entry distinct free = (
    free-join xs (entry ∷ []) x.0 distinct.0 (turned x.0 entry.0 free.0, tt),
    distinct-push xs entry distinct.1 free.1,
  )

  pub distinct-front : (xs ys : List (ℕ × T)) → AreDistinct (xs ++ ys) → AreDistinct xs
  distinct-front [] ys distinct = tt
  distinct-front (x ∷ xs) ys distinct =
      ((free-split xs ys x.0 distinct.0).0, distinct-front xs ys distinct.1)

  last-among : (xs : List (ℕ × T)) (x : ℕ × T) (key p : ℕ) → IsFree key (x ∷ xs) → last_or (Some x.0) xs ≡ Some p
      → p ≢ key
  last-among [] x key p free last = λ e. free.0 (cc (last, e))
  last-among (y ∷ xs) x key p free last = last-among xs y key p free.1 last

  last-apart : (xs : List (ℕ × T)) (x : ℕ × T) (ys : List (ℕ × T)) (p : ℕ) → AreDistinct (x ∷ (xs ++ ys))
      → last_or (Some x.0) xs ≡ Some p → IsFree p ys
  last-apart [] x ys p distinct last = subst (λ k. IsFree k ys) (cc last) distinct.0
  last-apart (y ∷ xs) x ys p distinct last = last-apart xs y ys p distinct.1 last

module _ {T : Type 0} (at now : ℕ → Option (Node T)) (list : ℕ) where
  pub chain-split : (xs ys : List (ℕ × T)) (before behind : Option ℕ) → IsChain at list before (xs ++ ys) behind
      → IsChain at list before xs (first_or ys behind) × IsChain at list (last_or before xs) ys behind
  chain-split [] ys before behind chain = (tt, chain)
  chain-split (x ∷ xs) ys before behind chain =
      let rest = chain-split xs ys (Some x.0) behind chain.1 in (
        (subst (λ o. at x.0 ≡ Some (node_of x.1 list before o)) (first-append xs ys behind) chain.0, rest.0),
        rest.1,
      )

  pub chain-join : (xs ys : List (ℕ × T)) (before behind : Option ℕ)
      → IsChain at list before xs (first_or ys behind) → IsChain at list (last_or before xs) ys behind
      → IsChain at list before (xs ++ ys) behind
  chain-join [] ys before behind left right = right
  chain-join (x ∷ xs) ys before behind left right = (
    subst (λ o. at x.0 ≡ Some (node_of x.1 list before o)) (sym (first-append xs ys behind)) left.0,
    chain-join xs ys (Some x.0) behind left.1 right,
  )

  -- a chain does not change where a node changes that is none of its own
  pub chain-kept : (xs : List (ℕ × T)) (before behind : Option ℕ) (key : ℕ) → KeepsOthers at now key → IsFree key xs
      → IsChain at list before xs behind → IsChain now list before xs behind
  chain-kept [] before behind key others free chain = tt
  chain-kept (x ∷ xs) before behind key others free chain =
      (others x.0 free.0 ∙ chain.0, chain-kept xs (Some x.0) behind key others free.1 chain.1)

  pub chain-same : (xs : List (ℕ × T)) (before behind : Option ℕ) → ((key : ℕ) → now key ≡ at key)
      → IsChain at list before xs behind → IsChain now list before xs behind
  chain-same [] before behind same chain = tt
  chain-same (x ∷ xs) before behind same chain =
      (same x.0 ∙ chain.0, chain-same xs (Some x.0) behind same chain.1)

  -- a chain does not change where the nodes of its list do not
  pub chain-foreign : (xs : List (ℕ × T)) (before behind : Option ℕ)
      → ((key : ℕ) (node : Node T) → at key ≡ Some node → node.list ≡ list → now key ≡ Some node)
      → IsChain at list before xs behind → IsChain now list before xs behind
  chain-foreign [] before behind same chain = tt
  chain-foreign (x ∷ xs) before behind same chain = (
    same x.0 (node_of x.1 list before (first_or xs behind)) chain.0 refl,
    chain-foreign xs (Some x.0) behind same chain.1,
  )

  changed-node : (key : ℕ) (node : Node T) (change : Node T → Node T) → at key ≡ Some node
      → now key ≡ option_map change (at key) → now key ≡ Some (change node)
  changed-node key node change there is = is ∙ ap (option_map change) there

  next-changed : (xs : List (ℕ × T)) (x : ℕ × T) (before behind next : Option ℕ) (p : ℕ) → AreDistinct (x ∷ xs)
      → last_or (Some x.0) xs ≡ Some p → IsChangedAt at now p (with_next next)
      → IsChain at list before (x ∷ xs) behind → IsChain now list before (x ∷ xs) next
  next-changed [] x before behind next p distinct last changed chain =
      let own : p ≡ x.0 = cc last in
      let at_x = subst (λ k. IsChangedAt at now k (with_next next)) own changed in
      (changed-node x.0 (node_of x.1 list before behind) (with_next next) chain.0 at_x.0, tt)
  next-changed (y ∷ xs) x before behind next p distinct last changed chain = (
    changed.1 x.0 (λ e. last-among xs y x.0 p distinct.0 last (sym e)) ∙ chain.0,
    next-changed xs y (Some x.0) behind next p distinct.1 last changed chain.1,
  )

  -- what is put behind the last of these nodes is behind them, and the nodes further on stay
  pub next-put : (xs ys : List (ℕ × T)) (before behind end next first result : Option ℕ) → AreDistinct (xs ++ ys)
      → IsNextSet at now (last_or None xs) next first result → first ≡ first_or xs behind
      → IsChain at list None xs behind → IsChain at list before ys end
      → IsChain now list None xs next × IsChain now list before ys end × (result ≡ first_or xs next)
  next-put [] ys before behind end next first result distinct set is left right =
      (tt, chain-same ys before end set.0 right, set.1)
  next-put (x ∷ xs) ys before behind end next first result distinct set is left right =
      let last = last-there xs x.0 in
      let done = subst (λ o. IsNextSet at now o next first result) last.1 set in (
        next-changed xs x None behind next last.0 (distinct-front (x ∷ xs) ys distinct) last.1 done.0 left,
        chain-kept ys before end last.0 done.0.1 (last-apart xs x ys last.0 distinct last.1) right,
        done.1 ∙ is,
      )

  -- and these stay also where nothing is known of the first
  pub back-kept : (xs ys : List (ℕ × T)) (before end behind next first result : Option ℕ) → AreDistinct (xs ++ ys)
      → IsNextSet at now (last_or None xs) next first result → IsChain at list None xs behind
      → IsChain at list before ys end → IsChain now list before ys end
  back-kept [] ys before end behind next first result distinct set left right =
      chain-same ys before end set.0 right
  back-kept (x ∷ xs) ys before end behind next first result distinct set left right =
      let last = last-there xs x.0 in
      let done = subst (λ o. IsNextSet at now o next first result) last.1 set in
      chain-kept ys before end last.0 done.0.1 (last-apart xs x ys last.0 distinct last.1) right

  -- what is put before the first of these nodes is before them, and the nodes before stay
  pub prev-put : (xs ys : List (ℕ × T)) (behind before prev last result : Option ℕ) → AreDistinct (xs ++ ys)
      → IsPrevSet at now (first_or ys None) prev last result → last ≡ last_or before ys
      → IsChain at list None xs behind → IsChain at list before ys None
      → IsChain now list None xs behind × IsChain now list prev ys None × (result ≡ last_or prev ys)
  prev-put xs [] behind before prev last result distinct set is left right =
      (chain-same xs None behind set.0 left, tt, set.1)
  prev-put xs (y ∷ ys) behind before prev last result distinct set is left right =
      let told = distinct-split xs ys y distinct in (
        chain-kept xs None behind y.0 set.0.1 told.0 left,
        (
          changed-node y.0 (node_of y.1 list before (first_or ys None)) (with_prev prev) right.0 set.0.0,
          chain-kept ys (Some y.0) None y.0 set.0.1 told.1 right.1,
        ),
        set.1 ∙ is,
      )

module _ {T : Type 0} (at : ℕ → Option (Node T)) (list : ℕ) where
  -- a chain is what is read from its first node on
  pub walk-is : (xs : List (ℕ × T)) (before : Option ℕ) (fuel : ℕ) → IsChain at list before xs None
      → length xs ≤ fuel → walk at fuel (first_or xs None) ≡ xs
  walk-is [] before zero chain within = refl
  walk-is [] before (suc fuel) chain within = refl
  walk-is (x ∷ xs) before zero chain within = absurd (omega arith)
  walk-is (x ∷ xs) before (suc fuel) chain within =
      ap (λ o. on_node o x.0 (λ next. walk at fuel next)) chain.0
      ∙ ap (λ rest. x ∷ rest) (walk-is xs (Some x.0) fuel chain.1 (omega arith))
