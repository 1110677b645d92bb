-- A node is taken out of its list.
use Rattle.std.specs.Prelude.{◌≡◌, ◌≢◌, ℕ, ◌+◌, ◌<◌, ◌≤◌, List, [], ◌∷◌, ◌++◌, length, Option, Some, None, IfSome, IsSome, slice_set, slice_index_or}
use Rattle.std.proofs.Common.{sym, ◌∙◌, ap, subst, arith, length-append}
use Rattle.std.proofs.lemmas.Option.{slice_get_within, get_or_from_slice_get}
use Rattle.slab.specs.Slab.{Slab, get, slab_len}
use Rattle.herm_links.specs.declared.nodes.Node.{Node}
use Rattle.herm_links.specs.declared.nodes.Ends.{Ends}
use Rattle.herm_links.specs.Lists.{LinkedLists, IsLive, entries_of, IsSplit, Stands}
use Rattle.herm_links.specs.Chains.{node_of, KeepsOthers, IsNextSet, IsPrevSet, first_or, last_or, IsChain, AreDistinct, IsList, lists_at, seen_of, AreLinked}
use Rattle.herm_links.proofs.ChainLaws.{first-append, last-append, distinct-split, chain-split, chain-kept, chain-join, back-kept, next-put, prev-put}
use Rattle.herm_links.proofs.Splits.{some-is, some-same, list-there, node-there, node-is, ends-there}
use Rattle.herm_links.proofs.Relinked.{changed, as-many}
use Rattle.herm_links.proofs.Pushed.{last-held, next-foreign}

module _ {T : Type 0} (at now : ℕ → Option (Node T)) (list : ℕ) where
  -- what is put before the first of these nodes leaves the nodes of other lists
  prev-foreign : (ys : List (ℕ × T)) (before prev last result : Option ℕ) → IsChain at list before ys None
      → IsPrevSet at now (first_or ys None) prev last result → (key : ℕ) (node : Node T) → at key ≡ Some node
      → node.list ≢ list → now key ≡ Some node
  prev-foreign [] before prev last result chain set key node read apart = set.0 key ∙ read
  prev-foreign (y ∷ ys) before prev last result chain set key node read apart =
      set.0.1
      key
      (λ e. apart
      (ap (λ n. n.list) (some-same node (node_of y.1 list before (first_or ys None)) (sym read ∙ ap at e ∙ chain.0))))
      ∙ read

  first-held : (ys : List (ℕ × T)) (before : Option ℕ) → IsChain at list before ys None
      → IfSome (first_or ys None) (λ key. IsSome (at key))
  first-held [] before chain = tt
  first-held (y ∷ ys) before chain = some-is (at y.0) (node_of y.1 list before (first_or ys None)) chain.0

module _ {T : Type 0} (nodes now : Slab (Node T)) (one two : ℕ → Option (Node T)) (lists : List Ends) (spare : ℕ) (is : AreLinked nodes lists spare) (s : LinkedLists T) (seen : seen_of nodes lists spare ≡ s) where
  -- a node has been removed from the storage, and its neighbours are linked to each other
  pub record IsUnlinked (key : ℕ) (taken : Node T) (ends : Ends) (first last : Option ℕ) (room : ℕ) : Type 0 where
    pub removed : KeepsOthers (get nodes) one key
    pub read : ends ≡ slice_index_or lists taken.list ends
    pub next_set : IsNextSet one two taken.prev taken.next ends.first first
    pub prev_set : IsPrevSet two (get now) taken.next taken.prev ends.last last
    pub long : slab_len now + 1 ≡ slab_len nodes
    pub roomy : slab_len now + room ≤ now.capacity

  -- what is before and behind a node that is removed
  record AreHalves (list : ℕ) (before : List (ℕ × T)) (key : ℕ) (behind : List (ℕ × T)) : Type 0 where
    front : IsChain one list None before (Some key)
    back : IsChain one list (Some key) behind None
    distinct : AreDistinct (before ++ behind)

  halves : (list : ℕ) (before : List (ℕ × T)) (key : ℕ) (value : T) (behind : List (ℕ × T))
      → IsSplit s list before key value behind → KeepsOthers (get nodes) one key → AreHalves list before key behind
  halves list before key value behind split removed =
      let found = list-there nodes lists spare is s seen list (before ++ (key, value) ∷ behind) split in
      let parts = chain-split (get nodes) (get nodes) list before ((key, value) ∷ behind) None None found.1.1.chain in
      let told = distinct-split before behind (key, value) found.1.1.distinct in
      record {
        front = chain-kept (get nodes) one list before None (Some key) key removed told.0 parts.0;
        back = chain-kept (get nodes) one list behind (Some key) None key removed told.1 parts.1.1;
        distinct = told.2;
      }

  -- the list of a node is kept
  pub list-within : (key : ℕ) (taken : Node T) → Stands s key → get nodes key ≡ Some taken → taken.list < length lists
  list-within key taken stands read =
      let same : taken.list ≡ stands.0 =
      ap (λ n. n.list) (node-is nodes lists spare is s seen stands.0 stands.1.0 key stands.1.1.0 stands.1.1.1.0 taken stands.1.1.1.1 read) in
      let within : stands.0 < length s.lists =
      slice_get_within s.lists stands.0 (stands.1.0 ++ (key, stands.1.1.0) ∷ stands.1.1.1.0) stands.1.1.1.1 in
      omega (arith, as-many nodes now lists spare is s seen)

  -- the node before may be given another behind it
  pub next-may : (key : ℕ) (taken : Node T) → Stands s key → get nodes key ≡ Some taken
      → KeepsOthers (get nodes) one key → IfSome taken.prev (λ k. IsSome (one k))
  next-may key taken stands read removed =
      let own = node-is nodes lists spare is s seen stands.0 stands.1.0 key stands.1.1.0 stands.1.1.1.0 taken stands.1.1.1.1 read in
      let half = halves stands.0 stands.1.0 key stands.1.1.0 stands.1.1.1.0 stands.1.1.1.1 removed in
      subst
      (λ o. IfSome o (λ k. IsSome (one k)))
      (sym (ap (λ n. n.prev) own))
      (last-held one stands.0 stands.1.0 (Some key) half.front)

  -- the node behind may be given another before it
  pub prev-may : (key : ℕ) (taken : Node T) (first result : Option ℕ) → Stands s key → get nodes key ≡ Some taken
      → KeepsOthers (get nodes) one key → IsNextSet one two taken.prev taken.next first result
      → IfSome taken.next (λ k. IsSome (two k))
  prev-may key taken first result stands read removed set =
      let own = node-is nodes lists spare is s seen stands.0 stands.1.0 key stands.1.1.0 stands.1.1.1.0 taken stands.1.1.1.1 read in
      let half = halves stands.0 stands.1.0 key stands.1.1.0 stands.1.1.1.0 stands.1.1.1.1 removed in
      let own_set = subst (λ o. IsNextSet one two o taken.next first result) (ap (λ n. n.prev) own) set in
      let back = back-kept one two stands.0 stands.1.0 stands.1.1.1.0 (Some key) None (Some key) taken.next first result half.distinct own_set half.front half.back in
      subst
      (λ o. IfSome o (λ k. IsSome (two k)))
      (sym (ap (λ n. n.next) own))
      (first-held two two stands.0 stands.1.1.1.0 (Some key) back)

  unlinked-at : (list : ℕ) (before : List (ℕ × T)) (key : ℕ) (value : T) (behind : List (ℕ × T)) (ends : Ends)
      (first last : Option ℕ) (room : ℕ) → IsSplit s list before key value behind
      → IsUnlinked key (node_of value list (last_or None before) (first_or behind None)) ends first last room
      → AreLinked now (slice_set lists list (record { first = first; last = last })) room
      × (lists_at now (slice_set lists list (record { first = first; last = last }))
      ≡ slice_set s.lists list (before ++ behind))
  unlinked-at list before key value behind ends first last room split u =
      let live : IsLive s list = slice_get_within s.lists list (before ++ (key, value) ∷ behind) split in
      let whole : entries_of s list ≡ before ++ (key, value) ∷ behind =
      get_or_from_slice_get s.lists list (before ++ (key, value) ∷ behind) [] split in
      let held = subst (λ es. IsList (get nodes) list ends es) whole (ends-there nodes lists spare is s seen list ends live u.read) in
      let half = halves list before key value behind split u.removed in
      let next = next-put one two list before behind (Some key) (Some key) None (first_or behind None) ends.first first half.distinct u.next_set (held.first ∙ first-append before ((key, value) ∷ behind) None) half.front half.back in
      let prev = prev-put two (get now) list before behind (first_or behind None) (Some key) (last_or None before) ends.last last half.distinct u.prev_set (held.last ∙ last-append before ((key, value) ∷ behind) None) next.0 next.1 in
      changed
      nodes
      now
      lists
      spare
      is
      s
      seen
      list
      (record { first = first; last = last })
      (before ++ behind)
      room
      live
      (record {
        first = next.2 ∙ sym (first-append before behind None);
        last = prev.2 ∙ sym (last-append before behind None);
        chain = chain-join (get now) (get now) list before behind None None prev.0 prev.1;
        distinct = half.distinct;
      })
      (λ k node read apart.
      let own = node-there nodes lists spare is s seen list before key value behind split in
      let still : one k ≡ Some node =
      u.removed k (λ e. apart (ap (λ n. n.list) (some-same node (node_of value list (last_or None before) (first_or behind None)) (sym read ∙ ap (get nodes) e ∙ own)))) ∙ read in
      prev-foreign two (get now) list behind (Some key) (last_or None before) ends.last last next.1 u.prev_set k node
      (next-foreign one two list before (Some key) (first_or behind None) ends.first first half.front u.next_set k node still apart)
      apart)
      (let longer : length (entries_of s list) ≡ length (before ++ (key, value) ∷ behind) = ap length whole in
      omega (arith, u.long, length-append before behind, length-append before ((key, value) ∷ behind)))
      u.roomy

  -- the others stay in their order
  pub unlinked : (list : ℕ) (before : List (ℕ × T)) (key : ℕ) (value : T) (behind : List (ℕ × T)) (taken : Node T)
      (ends : Ends) (first last : Option ℕ) (room : ℕ) → IsSplit s list before key value behind
      → get nodes key ≡ Some taken → IsUnlinked key taken ends first last room
      → AreLinked now (slice_set lists taken.list (record { first = first; last = last })) room
      × (lists_at now (slice_set lists taken.list (record { first = first; last = last }))
      ≡ slice_set s.lists list (before ++ behind))
  unlinked list before key value behind taken ends first last room split read u =
      let own = node-is nodes lists spare is s seen list before key value behind taken split read in
      subst
      (λ n. AreLinked now (slice_set lists n.list (record { first = first; last = last })) room
      × (lists_at now (slice_set lists n.list (record { first = first; last = last }))
      ≡ slice_set s.lists list (before ++ behind)))
      (sym own)
      (unlinked-at list before key value behind ends first last room split
      (subst (λ n. IsUnlinked key n ends first last room) own u))
