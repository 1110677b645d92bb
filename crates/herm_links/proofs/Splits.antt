-- What the place of a node in a list says of the storage.
use Rattle.std.specs.Prelude.{◌≡◌, ℕ, suc, List, [], ◌∷◌, ◌++◌, length, Option, Some, None, IsSome, option_map, slice_get, slice_index_or, refl}
use Rattle.std.proofs.Common.{sym, ◌∙◌, ap, subst}
use Rattle.std.proofs.lemmas.Option.{slice_get-map, slice_get-get_or, get_or_from_slice_get}
use Rattle.slab.specs.Slab.{Slab, get}
use Rattle.herm_links.specs.declared.nodes.Node.{Node}
use Rattle.herm_links.specs.declared.nodes.Ends.{Ends}
use Rattle.herm_links.specs.Lists.{LinkedLists, IsLive, entries_of, IsSplit, Stands, AreApart, first_node, last_node}
use Rattle.herm_links.specs.Chains.{node_of, first_or, last_or, IsFree, AreDistinct, IsList, walk, lists_at, seen_of, AreLinked}
use Rattle.herm_links.proofs.ChainLaws.{chain-split, free-split}

pub some-is : {X : Type 0} (o : Option X) (x : X) → o ≡ Some x → IsSome o
some-is o x is = subst IsSome (sym is) refl

pub some-same : {X : Type 0} (x y : X) → Some x ≡ Some y → x ≡ y
some-same x y same = cc

mapped-some : {X Y : Type 0} (f : X → Y) (o : Option X) (y : Y) → option_map f o ≡ Some y
    → (x : X) × ((o ≡ Some x) × (f x ≡ y))
mapped-some f None y is = cc
mapped-some f (Some x) y is = (x, (refl, cc is))

module _ {T : Type 0} where
  pub first-is : (entries : List (ℕ × T)) → first_node entries ≡ first_or entries None
  first-is [] = refl
  first-is (x ∷ xs) = refl

  last-is-from : (entries : List (ℕ × T)) (x : ℕ × T) → last_node (x ∷ entries) ≡ last_or (Some x.0) entries
  last-is-from [] x = refl
  last-is-from (y ∷ xs) x = last-is-from xs y

  pub last-is : (entries : List (ℕ × T)) → last_node entries ≡ last_or None entries
  last-is [] = refl
  last-is (x ∷ xs) = last-is-from xs x

  pub live-there : (s : LinkedLists T) (list : ℕ) → IsLive s list → slice_get s.lists list ≡ Some (entries_of s list)
  live-there s list live = slice_get-get_or s.lists list [] live

  first-in : (entries : List (ℕ × T)) (node : ℕ) → Some node ≡ first_node entries
      → (value : T) × ((rest : List (ℕ × T)) × (entries ≡ (node, value) ∷ rest))
  first-in [] node first = absurd (cc first)
  first-in (x ∷ xs) node first =
      let same : x.0 ≡ node = sym (some-same node x.0 first) in
      (x.1, (xs, ap (λ k. (k, x.1) ∷ xs) same))

  -- the first node of a list has a value, and others behind it
  pub first-parts : (s : LinkedLists T) (list node : ℕ) → Some node ≡ first_node (entries_of s list)
      → (value : T) × ((rest : List (ℕ × T)) × (entries_of s list ≡ (node, value) ∷ rest))
  first-parts s list node first = first-in (entries_of s list) node first

  pub first-split : (s : LinkedLists T) (list node : ℕ) → IsLive s list
      → (first : Some node ≡ first_node (entries_of s list))
      → IsSplit s list [] node (first-parts s list node first).0 (first-parts s list node first).1.0
  first-split s list node live first = live-there s list live ∙ ap Some (first-parts s list node first).1.1

  free-other : (xs : List (ℕ × T)) (ys : List (ℕ × T)) (node : ℕ) (value : T)
      → IsFree node (xs ++ (node, value) ∷ ys) → ⊥
  free-other xs ys node value free = (free-split xs ((node, value) ∷ ys) node free).1.0 refl

  -- in nodes that differ a node has one place
  one-place : (before first : List (ℕ × T)) (node : ℕ) (value also : T) (behind rest : List (ℕ × T))
      → before ++ (node, value) ∷ behind ≡ first ++ (node, also) ∷ rest → AreDistinct (before ++ (node, value) ∷ behind)
      → length before ≡ length first
  one-place [] [] node value also behind rest same distinct = refl
  one-place [] (y ∷ first) node value also behind rest same distinct =
      let tails : behind ≡ first ++ (node, also) ∷ rest = cc in
      absurd (free-other first rest node also (subst (λ zs. IsFree node zs) tails distinct.0))
  one-place (x ∷ before) [] node value also behind rest same distinct =
      let heads : x ≡ (node, also) = cc in
      let own : x.0 ≡ node = ap (λ e. e.0) heads in
      absurd (free-other before behind node value (subst (λ k. IsFree k (before ++ (node, value) ∷ behind)) own distinct.0))
  one-place (x ∷ before) (y ∷ first) node value also behind rest same distinct =
      let tails : before ++ (node, value) ∷ behind ≡ first ++ (node, also) ∷ rest = cc in
      ap (λ n. suc n) (one-place before first node value also behind rest tails distinct.1)

module _ {T : Type 0} (nodes : Slab (Node T)) (lists : List Ends) (spare : ℕ) (is : AreLinked nodes lists spare) (s : LinkedLists T) (seen : seen_of nodes lists spare ≡ s) where
  pub list-there : (list : ℕ) (entries : List (ℕ × T)) → slice_get s.lists list ≡ Some entries
      → (ends : Ends) × ((slice_get lists list ≡ Some ends) × IsList (get nodes) list ends entries)
  list-there list entries at =
      let own : slice_get (lists_at nodes lists) list ≡ Some entries = subst (λ t. slice_get t.lists list ≡ Some entries) (sym seen) at in
      let found = mapped-some (λ ends. walk (get nodes) (length nodes.slots) ends.first) (slice_get lists list) entries (sym (slice_get-map (λ ends. walk (get nodes) (length nodes.slots) ends.first) lists list) ∙ own) in (
        found.0,
        (
          found.1.0,
          subst (λ es. IsList (get nodes) list found.0 es) found.1.1 (is.linked list found.0 found.1.0),
        ),
      )

  pub node-there : (list : ℕ) (before : List (ℕ × T)) (node : ℕ) (value : T) (behind : List (ℕ × T))
      → IsSplit s list before node value behind
      → get nodes node ≡ Some (node_of value list (last_or None before) (first_or behind None))
  node-there list before node value behind split =
      let found = list-there list (before ++ (node, value) ∷ behind) split in
      (chain-split (get nodes) (get nodes) list before ((node, value) ∷ behind) None None found.1.1.chain).1.0

  -- what is read at a node
  pub node-is : (list : ℕ) (before : List (ℕ × T)) (key : ℕ) (value : T) (behind : List (ℕ × T)) (node : Node T)
      → IsSplit s list before key value behind → get nodes key ≡ Some node
      → node ≡ node_of value list (last_or None before) (first_or behind None)
  node-is list before key value behind node split read =
      some-same
      node
      (node_of value list (last_or None before) (first_or behind None))
      (sym read ∙ node-there list before key value behind split)

  pub next-is : (list : ℕ) (before : List (ℕ × T)) (key : ℕ) (value : T) (behind : List (ℕ × T)) (node : Node T)
      → IsSplit s list before key value behind → get nodes key ≡ Some node → node.next ≡ first_node behind
  next-is list before key value behind node split read =
      ap (λ n. n.next) (node-is list before key value behind node split read) ∙ sym (first-is behind)

  pub prev-is : (list : ℕ) (before : List (ℕ × T)) (key : ℕ) (value : T) (behind : List (ℕ × T)) (node : Node T)
      → IsSplit s list before key value behind → get nodes key ≡ Some node → node.prev ≡ last_node before
  prev-is list before key value behind node split read =
      ap (λ n. n.prev) (node-is list before key value behind node split read) ∙ sym (last-is before)

  pub stands-there : (node : ℕ) → Stands s node → IsSome (get nodes node)
  stands-there node stands =
      some-is
      (get nodes node)
      (node_of stands.1.1.0 stands.0 (last_or None stands.1.0) (first_or stands.1.1.1.0 None))
      (node-there stands.0 stands.1.0 node stands.1.1.0 stands.1.1.1.0 stands.1.1.1.1)

  pub apart : AreApart s
  apart node list other before first value also behind rest split against =
      let one = node-there list before node value behind split in
      let two = node-there other first node also rest against in
      let lists_same : list ≡ other =
      ap
      (λ n. n.list)
      (some-same
      (node_of value list (last_or None before) (first_or behind None))
      (node_of also other (last_or None first) (first_or rest None))
      (sym one ∙ two)) in
      let found = list-there list (before ++ (node, value) ∷ behind) split in
      let there = subst (λ l. slice_get s.lists l ≡ Some (first ++ (node, also) ∷ rest)) (sym lists_same) against in
      let same : before ++ (node, value) ∷ behind ≡ first ++ (node, also) ∷ rest = cc in
      (lists_same, one-place before first node value also behind rest same found.1.1.distinct)

  -- the ends that are kept of a list
  pub ends-there : (list : ℕ) (ends : Ends) → IsLive s list → ends ≡ slice_index_or lists list ends
      → IsList (get nodes) list ends (entries_of s list)
  ends-there list ends live read =
      let found = list-there list (entries_of s list) (live-there s list live) in
      subst
      (λ e. IsList (get nodes) list e (entries_of s list))
      (sym (get_or_from_slice_get lists list found.0 ends found.1.0) ∙ sym read)
      found.1.1

  pub front-is : (list : ℕ) (ends : Ends) → IsLive s list → ends ≡ slice_index_or lists list ends
      → ends.first ≡ first_node (entries_of s list)
  front-is list ends live read = (ends-there list ends live read).first ∙ sym (first-is (entries_of s list))
