-- Paths of types in rounds, over the types of the parts of each type.
use Rattle.std.specs.Prelude.{ℕ, zero, suc, ◌+◌, List, [], ◌∷◌, map, length, slice_get, min, ◌≡◌}
use Rattle.herm_model.specs.Lists.{map_or, total}
use Rattle.herm_model.specs.Types.{Shape, TypeTable, all_parts, part_paths}

-- the types of the parts of a shape
abbrev pub part_types : Shape → List ℕ
part_types s = map (λ part. part.1) (all_parts s)

-- how many paths a type has through parts, of at most so many types on the way
abbrev pub paths_within : ℕ → List (List ℕ) → ℕ → ℕ
paths_within zero parts t = 0
paths_within (suc n) parts t = map_or 0 (λ ps. 1 + total (paths_within n parts) ps) (slice_get parts t)

abbrev pub count_at : List ℕ → ℕ → ℕ
count_at counts t = map_or 0 (λ c. c) (slice_get counts t)

-- the sum as far as one more than the limit
abbrev pub paths_by : List ℕ → ℕ → List ℕ → ℕ
paths_by counts sum [] = sum
paths_by counts sum (p ∷ ps) = paths_by counts (min (sum + count_at counts p) 4097) ps

abbrev pub CountPaths : ℕ → List (List ℕ) → List ℕ → Type 0
CountPaths n parts counts = (t : ℕ) → count_at counts t ≡ min (paths_within n parts t) 4097

-- the counts are those of the paths of each type, as far as one more than the limit
abbrev pub IsCounted : TypeTable → List ℕ → Type 0
IsCounted table counts = (t : ℕ) → count_at counts t ≡ min (length (part_paths all_parts table t)) 4097
