-- Depth and paths in rounds, over the types that each type names.
use Rattle.std.specs.Prelude.{ℕ, zero, suc, ◌+◌, List, [], ◌∷◌, Bool, false, slice_get, min, length, ◌≡◌, ◌<◌, ◌⊎◌}
use Rattle.herm_model.specs.Lists.{all_pass, map_or, total}
use Rattle.herm_model.specs.Types.{TypeTable, is_within_depth, greatest_depth, all_parts, part_paths}
use Rattle.herm_model.specs.WellFormedTables.{greatest_paths}
use Rattle.herm_types.specs.Table.{says}

-- whether a type is within so many types on the way
abbrev pub is_within : ℕ → List (List ℕ) → ℕ → Bool
is_within zero next t = false
is_within (suc n) next t = map_or false (all_pass (is_within n next)) (slice_get next t)

abbrev pub SayWithin : ℕ → List (List ℕ) → List Bool → Type 0
SayWithin n next tests = (t : ℕ) → says tests t ≡ is_within n next t

-- how many paths a type has through parts, of at most so many types on the way
abbrev pub paths_within : ℕ → List (List ℕ) → ℕ → ℕ
paths_within zero parts t = 0
paths_within (suc n) parts t = map_or 0 (λ ps. 1 + total (paths_within n parts) ps) (slice_get parts t)

abbrev pub count_at : List ℕ → ℕ → ℕ
count_at counts t = map_or 0 (λ c. c) (slice_get counts t)

-- the sum as far as one more than the limit
abbrev pub paths_by : List ℕ → ℕ → List ℕ → ℕ
paths_by counts sum [] = sum
paths_by counts sum (p ∷ ps) = paths_by counts (min (sum + count_at counts p) 1025) ps

abbrev pub CountPaths : ℕ → List (List ℕ) → List ℕ → Type 0
CountPaths n parts counts = (t : ℕ) → count_at counts t ≡ min (paths_within n parts t) 1025

-- the type is deeper than types may be, or has more paths
abbrev pub IsBeyond : TypeTable → ℕ → Type 0
IsBeyond table t = (is_within_depth greatest_depth table t ≡ false) ⊎ (greatest_paths < length (part_paths all_parts table t))
