-- Empty places.
use Rattle.std.specs.Prelude.{ℕ, zero, suc, List, [], ◌∷◌, Option, None}
use Rattle.herm_model.specs.Paths.{Path}
use Rattle.herm_values.specs.declared.value.Value.{Value}

-- so many empty places
abbrev pub nothings : ℕ → List (Option Value)
nothings zero = []
nothings (suc n) = None ∷ nothings n

-- the paths of so many variables from one on
abbrev pub variables_from : ℕ → ℕ → List Path
variables_from i zero = []
variables_from i (suc n) = (i ∷ []) ∷ variables_from (suc i) n
