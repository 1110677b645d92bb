-- Nodes with a row each, and an index of nodes in the order of their rows' keys.
use Rattle.std.specs.Prelude.{◌≡◌, ℕ, suc, ◌<◌, ◌≤◌, List, [], ◌∷◌, ◌++◌, length, filter, not, Bool, cond, nat_eq, Option, Some, None, option_map, Result, Ok, Err, MatchOption, slice_get}
use Rattle.std.specs.declared.cmp.Ordering.{Ordering}
use Rattle.std.specs.declared.cmp.Ordering.TheVariants.{Less, Equal, Greater}
use Rattle.herm_links.specs.Lists.{LinkedLists, entries_of}
use Rattle.herm_links.specs.declared.links.NodeNo.{NodeNo}
use Rattle.herm_links.specs.declared.links.ListNo.{ListNo}
use Rattle.herm_rows.specs.Keys.{rows_of, HaveDifferentKeys, most_rows}

module _ {R : Type 0} where
  -- the node stands there, with this row
  abbrev pub Has : List (ℕ × R) → ℕ → R → Type 0
  Has entries node row = (place : ℕ) × (slice_get entries place ≡ Some (node, row))

  -- the node stands there
  abbrev pub HasNode : List (ℕ × R) → ℕ → Type 0
  HasNode entries node = (row : R) × Has entries node row

  -- the place of a node, and as many as there are for none
  abbrev pub place_of : List (ℕ × R) → Option ℕ → ℕ
  place_of [] _ = 0
  place_of (e ∷ entries) None = suc (place_of entries None)
  place_of (e ∷ entries) (Some node) = cond (nat_eq e.0 node) 0 (suc (place_of entries (Some node)))

  -- the same of a node as it is told
  abbrev pub place_at : List (ℕ × R) → Option NodeNo → ℕ
  place_at entries node = place_of entries (option_map (λ n. n.0) node)

  -- a row is put behind the others, with a node that was not there
  abbrev pub IsAdded : List (ℕ × R) → List (ℕ × R) → R → Type 0
  IsAdded old new row = (node : ℕ) × ((new ≡ old ++ (node, row) ∷ []) × (HasNode old node → ⊥))

  -- the nodes whose rows do not pass a test
  abbrev pub nodes_without : (R → Bool) → List (ℕ × R) → List (ℕ × R)
  nodes_without test entries = filter (λ entry. not (test entry.1)) entries

  -- no node stands there twice
  abbrev pub NodesDiffer : List (ℕ × R) → Type 0
  NodesDiffer entries = (i k : ℕ) (e f : ℕ × R) → slice_get entries i ≡ Some e → slice_get entries k ≡ Some f
      → e.0 ≡ f.0 → i ≡ k

  -- the nodes in the order of their rows' keys
  pub record IsIndex (order : R → R → Ordering) (entries : List (ℕ × R)) (index : List NodeNo) : Type 0 where
    pub standing : (i : ℕ) (n : NodeNo) → slice_get index i ≡ Some n → HasNode entries n.0
    pub rising : (i j : ℕ) (n m : NodeNo) (x y : R) → i < j → slice_get index i ≡ Some n → slice_get index j ≡ Some m
        → Has entries n.0 x → Has entries m.0 y → order x y ≡ Less
    pub all : (node : ℕ) (x : R) → Has entries node x → (i : ℕ) × (slice_get index i ≡ Some (record { 0 = node }))
    pub as_many : length index ≡ length entries

  -- the rows of the nodes before a place of the index answer Less
  abbrev pub AllBelow : (R → Ordering) → List (ℕ × R) → List NodeNo → ℕ → Type 0
  AllBelow answer entries index low = (i : ℕ) (n : NodeNo) (x : R) → i < low → slice_get index i ≡ Some n
      → Has entries n.0 x → answer x ≡ Less

  -- and from a place on Greater
  abbrev pub AllAbove : (R → Ordering) → List (ℕ × R) → List NodeNo → ℕ → Type 0
  AllAbove answer entries index high = (i : ℕ) (n : NodeNo) (x : R) → high ≤ i → slice_get index i ≡ Some n
      → Has entries n.0 x → answer x ≡ Greater

  -- the place of a row that answers Equal, or the one between the others
  abbrev pub IsPlace : (R → Ordering) → List (ℕ × R) → List NodeNo → Result ℕ ℕ → Type 0
  IsPlace answer entries index (Ok i) =
      (n : NodeNo) × ((x : R) × ((slice_get index i ≡ Some n) × (Has entries n.0 x × (answer x ≡ Equal))))
  IsPlace answer entries index (Err i) =
      (i ≤ length index) × (AllBelow answer entries index i × AllAbove answer entries index i)

  -- there is a first list, or no list yet
  abbrev pub IsMade : LinkedLists R → Option ListNo → Type 0
  IsMade links list = MatchOption list (links.lists ≡ []) (λ l. (l.0 ≡ 0) × (0 < length links.lists))

  -- the rows stand in the first list, once it is made, and the index has their nodes
  pub record AreKept (order : R → R → Ordering) (links : LinkedLists R) (list : Option ListNo) (index : List NodeNo) : Type 0 where
    pub made : IsMade links list
    pub indexed : IsIndex order (entries_of links 0) index
    pub nodes : NodesDiffer (entries_of links 0)
    pub keys : HaveDifferentKeys order (rows_of (entries_of links 0))
    pub few : length (entries_of links 0) ≤ most_rows
