-- Places of the code as parts of the model, each with a value or empty.
use Rattle.std.specs.Prelude.{ℕ, List, [], ◌∷◌, Option, Some, ⊤}
use Rattle.herm_model.specs.Paths.{Path}
use Rattle.herm_model.specs.Values.{Cell, Parts, cell_at, read_at, inside, readable_of, change_readable, change_from}
use Rattle.herm_values.specs.Keyed.{keyed_of}
use Rattle.herm_values.specs.Parts.{parts_from}
use Rattle.herm_values.specs.View.{views_of}
use Rattle.herm_values.specs.declared.value.Value.{Value}

-- as trees whose tables have the fields of their keys
abbrev pub keyed_places : List (Option Value) → Parts (List ℕ)
keyed_places vs = parts_from (keyed_of vs)

-- as trees without names
abbrev pub seen_places : List (Option Value) → Parts ⊤
seen_places vs = parts_from (views_of vs)

-- what a cell has at these steps, reached through records and callmessages alone, and through components too
abbrev pub cell_in : {N : Type 0} → Path → Cell N → Option (Cell N)
cell_in [] c = Some c
cell_in (j ∷ p) c = cell_at (j ∷ p) (inside (Some c))

abbrev pub read_in : {N : Type 0} → Path → Cell N → Option (Cell N)
read_in [] c = Some c
read_in (j ∷ p) c = read_at (j ∷ p) (readable_of (Some c))

-- a cell with another one at these steps, reached through components too, where there is one
abbrev pub change_in : {N : Type 0} → Path → Cell N → Cell N → Cell N
change_in [] w c = w
change_in (j ∷ p) w c = change_readable (change_from (j ∷ p) (λ d. w)) c
