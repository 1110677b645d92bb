-- A node is put behind the others of its list.
use Rattle.std.specs.Prelude.{◌≡◌, ◌≢◌, ℕ, ◌+◌, ◌≤◌, List, [], ◌∷◌, ◌++◌, Option, Some, None, IfSome, IsSome, slice_set, slice_index_or, refl}
use Rattle.std.proofs.Common.{sym, ◌∙◌, ap, subst, arith, length-append}
use Rattle.slab.specs.Slab.{Slab, get, slab_len}
use Rattle.herm_links.specs.declared.nodes.Node.{Node}
use Rattle.herm_links.specs.declared.nodes.Ends.{Ends}
use Rattle.herm_links.specs.Lists.{LinkedLists, IsLive, entries_of, Stands}
use Rattle.herm_links.specs.Chains.{node_of, KeepsOthers, IsNextSet, last_or, IsChain, IsFree, lists_at, seen_of, AreLinked}
use Rattle.herm_links.proofs.ChainLaws.{first-append, last-append, last-there, distinct-push, chain-kept, chain-join, next-put}
use Rattle.herm_links.proofs.Splits.{some-is, some-same, ends-there, stands-there}
use Rattle.herm_links.proofs.Relinked.{changed}

module _ {T : Type 0} (at : ℕ → Option (Node T)) (list : ℕ) where
  -- the last node of a chain is a node of its list
  last-own : (xs : List (ℕ × T)) (x : ℕ × T) (before behind : Option ℕ) (p : ℕ) → last_or (Some x.0) xs ≡ Some p
      → IsChain at list before (x ∷ xs) behind → (node : Node T) × ((at p ≡ Some node) × (node.list ≡ list))
  last-own [] x before behind p last chain = (
    node_of x.1 list before behind,
    (subst (λ k. at k ≡ Some (node_of x.1 list before behind)) (cc last) chain.0, refl),
  )
  last-own (y ∷ xs) x before behind p last chain = last-own xs y (Some x.0) behind p last chain.1

  pub last-held : (xs : List (ℕ × T)) (behind : Option ℕ) → IsChain at list None xs behind
      → IfSome (last_or None xs) (λ key. IsSome (at key))
  last-held [] behind chain = tt
  last-held (x ∷ xs) behind chain =
      let last = last-there xs x.0 in
      let own = last-own xs x None behind last.0 last.1 chain in
      subst (λ o. IfSome o (λ key. IsSome (at key))) (sym last.1) (some-is (at last.0) own.0 own.1.0)

  -- a key with no node is none of a chain's
  pub vacant-free : (xs : List (ℕ × T)) (before behind : Option ℕ) (key : ℕ) → at key ≡ None
      → IsChain at list before xs behind → IsFree key xs
  vacant-free [] before behind key none chain = tt
  vacant-free (x ∷ xs) before behind key none chain = (
    (λ e. let none_there : at x.0 ≡ None = subst (λ k. at k ≡ None) (sym e) none in cc (none_there, chain.0)),
    vacant-free xs (Some x.0) behind key none chain.1,
  )

module _ {T : Type 0} (at now : ℕ → Option (Node T)) (list : ℕ) where
  -- what is put behind the last node of a list leaves the nodes of other lists
  pub next-foreign : (xs : List (ℕ × T)) (behind next first result : Option ℕ) → IsChain at list None xs behind
      → IsNextSet at now (last_or None xs) next first result → (key : ℕ) (node : Node T) → at key ≡ Some node
      → node.list ≢ list → now key ≡ Some node
  next-foreign [] behind next first result chain set key node read apart = set.0 key ∙ read
  next-foreign (x ∷ xs) behind next first result chain set key node read apart =
      let last = last-there xs x.0 in
      let own = last-own at list xs x None behind last.0 last.1 chain in
      let done = subst (λ o. IsNextSet at now o next first result) last.1 set in
      done.0.1
      key
      (λ e. apart (ap (λ n. n.list) (some-same node own.0 (sym read ∙ ap at e ∙ own.1.0)) ∙ own.1.1))
      ∙ read

module _ {T : Type 0} (nodes now : Slab (Node T)) (mid : ℕ → Option (Node T)) (lists : List Ends) (spare : ℕ) (is : AreLinked nodes lists spare) (s : LinkedLists T) (seen : seen_of nodes lists spare ≡ s) where
  -- a new node behind the others of a list
  pub record IsPushed (list : ℕ) (ends : Ends) (key : ℕ) (value : T) (first : Option ℕ) (room : ℕ) : Type 0 where
    pub live : IsLive s list
    pub read : ends ≡ slice_index_or lists list ends
    pub vacant : get nodes key ≡ None
    pub made : mid key ≡ Some (node_of value list ends.last None)
    pub others : KeepsOthers (get nodes) mid key
    pub set : IsNextSet mid (get now) ends.last (Some key) ends.first first
    pub long : slab_len now ≡ slab_len nodes + 1
    pub roomy : slab_len now + room ≤ now.capacity

  -- what the last node has behind it may be set
  pub last-may : (list : ℕ) (ends : Ends) (key : ℕ) → IsLive s list → ends ≡ slice_index_or lists list ends
      → get nodes key ≡ None → KeepsOthers (get nodes) mid key → IfSome ends.last (λ k. IsSome (mid k))
  last-may list ends key live read vacant others =
      let held = ends-there nodes lists spare is s seen list ends live read in
      let free = vacant-free (get nodes) list (entries_of s list) None None key vacant held.chain in
      let chain = chain-kept (get nodes) mid list (entries_of s list) None None key others free held.chain in
      subst (λ o. IfSome o (λ k. IsSome (mid k))) (sym held.last) (last-held mid list (entries_of s list) None chain)

  pub pushed : (list : ℕ) (ends : Ends) (key : ℕ) (value : T) (first : Option ℕ) (room : ℕ)
      → IsPushed list ends key value first room
      → AreLinked now (slice_set lists list (record { first = first; last = Some key })) room
      × (lists_at now (slice_set lists list (record { first = first; last = Some key }))
      ≡ slice_set s.lists list (entries_of s list ++ (key, value) ∷ []))
  pushed list ends key value first room p =
      let es = entries_of s list in
      let held = ends-there nodes lists spare is s seen list ends p.live p.read in
      let free = vacant-free (get nodes) list (entries_of s list) None None key p.vacant held.chain in
      let chain = chain-kept (get nodes) mid list (entries_of s list) None None key p.others free held.chain in
      let distinct = distinct-push (entries_of s list) (key, value) held.distinct free in
      let set = subst (λ o. IsNextSet mid (get now) o (Some key) ends.first first) held.last p.set in
      let made = subst (λ o. mid key ≡ Some (node_of value list o None)) held.last p.made in
      let put = next-put mid (get now) list (entries_of s list) ((key, value) ∷ []) (last_or None (entries_of s list)) None None (Some key) ends.first first distinct set held.first chain (made, tt) in
      changed
      nodes
      now
      lists
      spare
      is
      s
      seen
      list
      (record { first = first; last = Some key })
      (entries_of s list ++ (key, value) ∷ [])
      room
      p.live
      (record {
        first = put.2 ∙ sym (first-append (entries_of s list) ((key, value) ∷ []) None);
        last = sym (last-append (entries_of s list) ((key, value) ∷ []) None);
        chain = chain-join (get now) (get now) list (entries_of s list) ((key, value) ∷ []) None None put.0 put.1;
        distinct = distinct;
      })
      (λ k node read apart.
      next-foreign mid (get now) list (entries_of s list) None (Some key) ends.first first chain set k node
      (p.others k (λ e. let none : get nodes k ≡ None = subst (λ j. get nodes j ≡ None) (sym e) p.vacant in cc (none, read)) ∙ read)
      apart)
      (omega (arith, p.long, length-append (entries_of s list) ((key, value) ∷ [])))
      p.roomy

  -- the new node stood in no list
  pub fresh : (key : ℕ) → get nodes key ≡ None → Stands s key → ⊥
  fresh key vacant stands =
      let there : IsSome (get nodes key) = stands-there nodes lists spare is s seen key stands in
      let none : IsSome {T = Node T} None = subst (λ o. IsSome o) vacant there in
      absurd (cc none)
