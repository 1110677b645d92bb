-- Keys of rows, and rows by key.
use Rattle.std.specs.Prelude.{ℕ, zero, suc, List, [], ◌∷◌, Bool, true, false, cond, not, ◌&&◌, ◌||◌, ℤ, pos, negsuc, Option, Some, None, flat_map, nat_eq, option_map}
use Rattle.herm_model.specs.Lists.{same_numbers, list_of}
use Rattle.herm_model.specs.Values.{Scalar, a_boolean, an_integer, a_text, a_tag, a_scalar, Cell, cell, Parts, no_parts, gap, part, part_at, inside}

abbrev pub same_boolean : Bool → Bool → Bool
same_boolean true b = b
same_boolean false b = not b

abbrev pub same_integer : ℤ → ℤ → Bool
same_integer (pos m) (pos n) = nat_eq m n
same_integer (pos m) (negsuc n) = false
same_integer (negsuc m) (pos n) = false
same_integer (negsuc m) (negsuc n) = nat_eq m n

-- the two scalars are equal
abbrev pub same_scalar : Scalar → Scalar → Bool
same_scalar (a_boolean a) (a_boolean b) = same_boolean a b
same_scalar (an_integer y) (an_integer z) = same_integer y z
same_scalar (a_text s) (a_text t) = same_numbers s t
same_scalar (a_tag i) (a_tag j) = nat_eq i j
same_scalar a b = false

-- the two keys are equal, scalar by scalar
abbrev pub same_key : List Scalar → List Scalar → Bool
same_key [] [] = true
same_key [] (b ∷ bs) = false
same_key (a ∷ as') [] = false
same_key (a ∷ as') (b ∷ bs) = same_scalar a b && same_key as' bs

-- the scalar that a cell is
abbrev pub scalars_of : {N : Type 0} → Cell N → List Scalar
scalars_of (cell n (a_scalar s) ps) = s ∷ []
scalars_of (cell n k ps) = []

-- A row's key: its scalars at the fields of the key, in the key's order. Language reference, "Tables".
abbrev pub key_of : {N : Type 0} → List ℕ → Cell N → List Scalar
key_of key row = flat_map (λ i. list_of scalars_of (part_at i (inside (Some row)))) key

-- whether a row has this key
abbrev pub has_key : {N : Type 0} → List ℕ → List Scalar → Parts N → Bool
has_key key k no_parts = false
has_key key k (gap ps) = has_key key k ps
has_key key k (part row ps) = same_key (key_of key row) k || has_key key k ps

-- the place of the first row with this key
abbrev pub place_of_key : {N : Type 0} → List ℕ → List Scalar → Parts N → Option ℕ
place_of_key key k no_parts = None
place_of_key key k (gap ps) = option_map suc (place_of_key key k ps)
place_of_key key k (part row ps) = cond (same_key (key_of key row) k) (Some 0) (option_map suc (place_of_key key k ps))

-- no two rows have one key
abbrev pub has_distinct_keys : {N : Type 0} → List ℕ → Parts N → Bool
has_distinct_keys key no_parts = true
has_distinct_keys key (gap ps) = has_distinct_keys key ps
has_distinct_keys key (part row ps) = not (has_key key (key_of key row) ps) && has_distinct_keys key ps

-- the rows without the one at a place
abbrev pub without_part : {N : Type 0} → ℕ → Parts N → Parts N
without_part i no_parts = no_parts
without_part zero (gap ps) = ps
without_part zero (part c ps) = ps
without_part (suc i) (gap ps) = gap (without_part i ps)
without_part (suc i) (part c ps) = part c (without_part i ps)
