-- Lists of nodes, each node with a value.
use Rattle.std.specs.Prelude.{◌≡◌, ℕ, ◌<◌, List, [], ◌∷◌, ◌++◌, length, Option, Some, None, slice_get, slice_index_or, refl}
use Rattle.std.specs.Coded.{Coded, code_by, coded×, coded_ℕ, coded_list}

-- at the number of each list its nodes, from front to end, with their values; and how many nodes
-- may be made without memory
pub record LinkedLists (T : Type 0) : Type 0 where
  pub lists : List (List (ℕ × T))
  pub spare : ℕ

abbrev pub linked_lists_code : {T : Type 0} → Coded T → Coded (LinkedLists T)
linked_lists_code {T} code =
    code_by
    (List (List (ℕ × T)) × ℕ)
    (coded× (coded_list (coded_list (coded× coded_ℕ code))) coded_ℕ)
    (λ s. (s.lists, s.spare))
    (λ p. record { lists = p.0; spare = p.1 })
    (λ _. refl)

module _ {T : Type 0} where
  -- the list has been made
  abbrev pub IsLive : LinkedLists T → ℕ → Type 0
  IsLive s list = list < length s.lists

  -- the nodes of a list
  abbrev pub entries_of : LinkedLists T → ℕ → List (ℕ × T)
  entries_of s list = slice_index_or s.lists list []

  -- the list has these nodes, then this one, then those
  abbrev pub IsSplit : LinkedLists T → (list : ℕ) → List (ℕ × T) → (node : ℕ) → T → List (ℕ × T) → Type 0
  IsSplit s list before node value behind = slice_get s.lists list ≡ Some (before ++ (node, value) ∷ behind)

  -- the node stands in a list
  abbrev pub Stands : LinkedLists T → ℕ → Type 0
  Stands s node = (list : ℕ) × ((before : List (ℕ × T)) × ((value : T) × ((behind : List (ℕ × T)) × IsSplit s list before node value behind)))

  -- a node stands at one place of one list
  abbrev pub AreApart : LinkedLists T → Type 0
  AreApart s = (node list other : ℕ) (before first : List (ℕ × T)) (value also : T) (behind rest : List (ℕ × T))
      → IsSplit s list before node value behind → IsSplit s other first node also rest
      → (list ≡ other) × (length before ≡ length first)

  abbrev pub first_node : List (ℕ × T) → Option ℕ
  first_node [] = None
  first_node (entry ∷ _) = Some entry.0

  abbrev pub first_value : List (ℕ × T) → Option T
  first_value [] = None
  first_value (entry ∷ _) = Some entry.1

  abbrev pub last_node : List (ℕ × T) → Option ℕ
  last_node [] = None
  last_node (entry ∷ []) = Some entry.0
  last_node (_ ∷ (entry ∷ rest)) = last_node (entry ∷ rest)
