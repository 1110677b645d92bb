-- Names found by their bytes.
use Rattle.std.specs.Prelude.{ℕ, List, Option, Some, None, length, ◌≡◌, ◌<◌}
use Rattle.std.specs.Str.{bytes_eq}
use Rattle.std.specs.Map.{lookup}
use Rattle.herm_naming.specs.Numbers.{place_of}

-- what is found is the place, or nothing where the place is the number of names
abbrev pub IsFoundAt : Option ℕ → ℕ → ℕ → Type 0
IsFoundAt None i count = i ≡ count
IsFoundAt (Some n) i count = (n ≡ i) × (n < count)

-- each name is found at the place of the first that is equal
abbrev pub Finds : {K : Type 0} → (K → List ℕ) → List (List ℕ) → List (K × ℕ) → Type 0
Finds bytes names entries = (name : List ℕ) → IsFoundAt (lookup (λ k. bytes_eq name (bytes k)) entries) (place_of name names) (length names)

-- more than a few names are found so
abbrev pub IsIndexOf : {K : Type 0} → (K → List ℕ) → List (List ℕ) → List (K × ℕ) → Type 0
IsIndexOf bytes names entries = 8 < length names → Finds bytes names entries
