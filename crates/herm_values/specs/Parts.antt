-- Parts of a cell as a list of places, each with a cell or empty.
use Rattle.std.specs.Prelude.{ℕ, suc, List, [], ◌∷◌, Option, Some, None, map, get_or}
use Rattle.herm_model.specs.Values.{Cell, Parts, no_parts, place}

-- the parts with these places in order
abbrev pub parts_from : {N : Type 0} → List (Option (Cell N)) → Parts N
parts_from [] = no_parts
parts_from (o ∷ os) = place o (parts_from os)

-- the rows at these places, in this order
abbrev pub rows_at : {N : Type 0} → List ℕ → List (Option (Cell N)) → List (Option (Cell N))
rows_at places rows = map (λ i. get_or rows i None) places

-- how many of these places are not empty
abbrev pub filled : {X : Type 0} → List (Option X) → ℕ
filled [] = 0
filled (None ∷ os) = filled os
filled (Some x ∷ os) = suc (filled os)
