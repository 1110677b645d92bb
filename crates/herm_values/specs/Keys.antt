-- Rows of a table by their keys.
use Rattle.std.specs.Prelude.{ℕ, Bool, false, true, List, Option, option_and_then}
use Rattle.herm_model.specs.Lists.{map_or}
use Rattle.herm_model.specs.Values.{Scalar, a_scalar, Cell, cell, Parts, part_at}
use Rattle.herm_model.specs.Tables.{place_of_key, same_scalar, without_part}

-- the row that has this key; Language reference, "Tables"
abbrev pub row_with : {N : Type 0} → List ℕ → List Scalar → Parts N → Option (Cell N)
row_with columns key rows = option_and_then (λ i. part_at i rows) (place_of_key columns key rows)

-- the rows without the one that has this key
abbrev pub without_key : {N : Type 0} → List ℕ → List Scalar → Parts N → Parts N
without_key columns key rows = map_or rows (λ i. without_part i rows) (place_of_key columns key rows)

-- whether the cell is a scalar
abbrev pub is_plain : {N : Type 0} → Cell N → Bool
is_plain (cell n (a_scalar s) ps) = true
is_plain (cell n k ps) = false

-- whether the cell is this scalar
abbrev pub is_scalar : {N : Type 0} → Scalar → Cell N → Bool
is_scalar s (cell n (a_scalar t) ps) = same_scalar s t
is_scalar s (cell n k ps) = false
