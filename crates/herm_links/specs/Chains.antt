-- How a storage of nodes holds lists.
use Rattle.std.specs.Prelude.{◌≡◌, ◌≢◌, ℕ, zero, suc, ◌+◌, ◌≤◌, List, [], ◌∷◌, length, map, Option, Some, None, option_map, slice_get}
use Rattle.slab.specs.Slab.{Slab, get, slab_len}
use Rattle.herm_links.specs.Lists.{LinkedLists}
use Rattle.herm_links.specs.declared.nodes.Node.{Node}
use Rattle.herm_links.specs.declared.nodes.Ends.{Ends}

module _ {T : Type 0} where
  abbrev pub node_of : T → ℕ → Option ℕ → Option ℕ → Node T
  node_of value list prev next = record { value = value; list = list; prev = prev; next = next }

  abbrev pub with_next : Option ℕ → Node T → Node T
  with_next next node = record node { next = next }

  abbrev pub with_prev : Option ℕ → Node T → Node T
  with_prev prev node = record node { prev = prev }

  -- every other key has what it had
  abbrev pub KeepsOthers : (ℕ → Option (Node T)) → (ℕ → Option (Node T)) → ℕ → Type 0
  KeepsOthers at now key = (other : ℕ) → other ≢ key → now other ≡ at other

  -- the node of one key has changed so
  abbrev pub IsChangedAt : (ℕ → Option (Node T)) → (ℕ → Option (Node T)) → ℕ → (Node T → Node T) → Type 0
  IsChangedAt at now key change = (now key ≡ option_map change (at key)) × KeepsOthers at now key

  -- `next` is behind `prev`, or is the first node
  abbrev pub IsNextSet : (ℕ → Option (Node T)) → (ℕ → Option (Node T)) → (prev next first result : Option ℕ) → Type 0
  IsNextSet at now None next first result = ((key : ℕ) → now key ≡ at key) × (result ≡ next)
  IsNextSet at now (Some key) next first result = IsChangedAt at now key (with_next next) × (result ≡ first)

  -- `prev` is before `next`, or is the last node
  abbrev pub IsPrevSet : (ℕ → Option (Node T)) → (ℕ → Option (Node T)) → (next prev last result : Option ℕ) → Type 0
  IsPrevSet at now None prev last result = ((key : ℕ) → now key ≡ at key) × (result ≡ prev)
  IsPrevSet at now (Some key) prev last result = IsChangedAt at now key (with_prev prev) × (result ≡ last)

  -- the first of these nodes, or what is behind them
  abbrev pub first_or : List (ℕ × T) → Option ℕ → Option ℕ
  first_or [] behind = behind
  first_or (entry ∷ _) behind = Some entry.0

  -- the last of these nodes, or what is before them
  abbrev pub last_or : Option ℕ → List (ℕ × T) → Option ℕ
  last_or before [] = before
  last_or before (entry ∷ rest) = last_or (Some entry.0) rest

  -- these nodes are linked to one another in this order, between what is before and what is behind
  abbrev pub IsChain : (ℕ → Option (Node T)) → ℕ → Option ℕ → List (ℕ × T) → Option ℕ → Type 0
  IsChain at list before [] behind = Unit {0}
  IsChain at list before (entry ∷ rest) behind =
      (at entry.0 ≡ Some (node_of entry.1 list before (first_or rest behind)))
      × IsChain at list (Some entry.0) rest behind

  -- the key is none of these nodes'
  abbrev pub IsFree : ℕ → List (ℕ × T) → Type 0
  IsFree key [] = Unit {0}
  IsFree key (entry ∷ rest) = (entry.0 ≢ key) × IsFree key rest

  -- no node comes twice
  abbrev pub AreDistinct : List (ℕ × T) → Type 0
  AreDistinct [] = Unit {0}
  AreDistinct (entry ∷ rest) = IsFree entry.0 rest × AreDistinct rest

  -- a list with this number and these ends has these nodes
  pub record IsList (at : ℕ → Option (Node T)) (list : ℕ) (ends : Ends) (entries : List (ℕ × T)) : Type 0 where
    pub first : ends.first ≡ first_or entries None
    pub last : ends.last ≡ last_or None entries
    pub chain : IsChain at list None entries None
    pub distinct : AreDistinct entries

  abbrev pub on_node : Option (Node T) → ℕ → (Option ℕ → List (ℕ × T)) → List (ℕ × T)
  on_node None key rest = []
  on_node (Some node) key rest = (key, node.value) ∷ rest node.next

  -- the nodes from a key on, at most so many
  abbrev pub walk : (ℕ → Option (Node T)) → ℕ → Option ℕ → List (ℕ × T)
  walk at zero key = []
  walk at (suc n) None = []
  walk at (suc n) (Some key) = on_node (at key) key (λ next. walk at n next)

  -- the nodes of each list
  abbrev pub lists_at : Slab (Node T) → List Ends → List (List (ℕ × T))
  lists_at nodes lists = map (λ ends. walk (get nodes) (length nodes.slots) ends.first) lists

  -- what is seen of a storage
  abbrev pub seen_of : Slab (Node T) → List Ends → ℕ → LinkedLists T
  seen_of nodes lists spare = record { lists = lists_at nodes lists; spare = spare }

  abbrev pub count_all : List (List (ℕ × T)) → ℕ
  count_all [] = 0
  count_all (entries ∷ rest) = length entries + count_all rest

  -- each list has the nodes that are read from its first one on, and each node stands in a list
  pub record AreLinked (nodes : Slab (Node T)) (lists : List Ends) (spare : ℕ) : Type 0 where
    pub linked : (list : ℕ) (ends : Ends) → slice_get lists list ≡ Some ends
        → IsList (get nodes) list ends (walk (get nodes) (length nodes.slots) ends.first)
    pub counted : count_all (lists_at nodes lists) ≡ slab_len nodes
    pub room : slab_len nodes + spare ≤ nodes.capacity
