-- Rows and their keys.
use Rattle.std.specs.Prelude.{map, ◌≡◌, ◌≢◌, ℕ, ◌≤◌, Bool, not, List, filter}
use Rattle.std.specs.List.{AllPairs}
use Rattle.std.specs.Ordering.{is_eq, ordering_index}
use Rattle.std.specs.declared.cmp.Ordering.{Ordering}
use Rattle.std.specs.declared.cmp.Ordering.TheVariants.{Equal, Greater}

-- two rows that are equal to one key are equal to each other
abbrev pub IsOneKey : {R Key : Type 0} → (R → R → Ordering) → (R → Key → Ordering) → Type 0
IsOneKey {R} {Key} order order_key = (x y : R) (key : Key) → order_key x key ≡ Equal
    → order_key y key ≡ Equal → order x y ≡ Equal

-- where a row is not after another, its answer to a key is not greater than the other's, in the
-- order Less, Equal, Greater
abbrev pub AreKeysInOrder : {R Key : Type 0} → (R → R → Ordering) → (R → Key → Ordering) → Type 0
AreKeysInOrder {R} {Key} order order_key = (x y : R) (key : Key) → order x y ≢ Greater
    → ordering_index (order_key x key) ≤ ordering_index (order_key y key)

-- whether a row has this key
abbrev pub has_key : {R Key : Type 0} → (R → Key → Ordering) → Key → R → Bool
has_key order_key key row = is_eq (order_key row key)

-- whether two rows have one key
abbrev pub is_key_of : {R : Type 0} → (R → R → Ordering) → R → R → Bool
is_key_of order row other = is_eq (order other row)

-- no two rows have one key
abbrev pub HaveDifferentKeys : {R : Type 0} → (R → R → Ordering) → List R → Type 0
HaveDifferentKeys order rows = AllPairs (λ x y. order x y ≢ Equal) rows

-- the greatest number of rows
abbrev pub most_rows : ℕ
most_rows = 4096

-- the rows, in the order of their insertion, of nodes with a row each
abbrev pub rows_of : {R : Type 0} → List (ℕ × R) → List R
rows_of entries = map (λ entry. entry.1) entries

-- the rows that do not pass a test
abbrev pub without : {R : Type 0} → (R → Bool) → List R → List R
without test rows = filter (λ row. not (test row)) rows
