-- The values that a process holds, one by one with the types of their places, from its variables, its lists of rows and its
-- work list.
use Rattle.std.specs.Prelude.{ℕ, List, [], ◌∷◌, ◌++◌, map, flat_map, Option, Some, None}
use Rattle.herm_model.specs.Values.{Cell, Parts, no_parts, gap, part}
use Rattle.herm_system.specs.Machines.{Held}

-- a value without a type of its place
abbrev pub untyped : {N : Type 0} → Cell N → Held N
untyped c = record { place_type = None; value = c }

-- the values of variables with these types
abbrev pub in_variables : {N : Type 0} → List ℕ → Parts N → List (Held N)
in_variables ts no_parts = []
in_variables [] (gap ps) = in_variables [] ps
in_variables (t ∷ ts) (gap ps) = in_variables ts ps
in_variables [] (part c ps) = untyped c ∷ in_variables [] ps
in_variables (t ∷ ts) (part c ps) = record { place_type = Some t; value = c } ∷ in_variables ts ps

-- the rows of a list, which are of one type
abbrev pub in_rows : {N : Type 0} → Option ℕ → Parts N → List (Held N)
in_rows t no_parts = []
in_rows t (gap ps) = in_rows t ps
in_rows t (part c ps) = record { place_type = t; value = c } ∷ in_rows t ps

-- What a process holds: in its variables, in its lists of rows, each with the type of its rows, and on its work list, which
-- has no types. Language reference, "The ledger".
abbrev pub held_parts : {N X : Type 0} → (variables : List ℕ) → Parts N → (row : X → Option ℕ) → (rows : X → Parts N) → List X → (work : List (Cell N)) → List (Held N)
held_parts ts ps row rows lists work = in_variables ts ps ++ flat_map (λ (x : _). in_rows (row x) (rows x)) lists ++ map untyped work
