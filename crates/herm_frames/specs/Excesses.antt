-- What a value holds beyond a full one: what stands at out parameters.
use Rattle.std.specs.Prelude.{ℕ, zero, suc, List, [], ◌∷◌, ◌++◌, cond, Bool, true, false, ◌||◌, Option, Some, None, slice_get}
use Rattle.herm_model.specs.Lists.{map_or, any_pass}
use Rattle.herm_model.specs.Paths.{Path}
use Rattle.herm_model.specs.Types.{Shape, fields, callmessage, Mode, by_in, by_inout, by_out, Parameter, TypeTable}

-- the path, where there is a value at it
abbrev pub if_here : (Path → Bool) → Path → List Path
if_here here p = cond (here p) (p ∷ []) []

-- the same, where one more type may be looked at
abbrev pub if_here_within : (Path → Bool) → ℕ → Path → List Path
if_here_within here zero p = []
if_here_within here (suc n) p = if_here here p

-- what a mode chooses: what is in the value, or the value itself
abbrev pub of_mode : List Path → List Path → Mode → List Path
of_mode inner itself by_in = inner
of_mode inner itself by_inout = inner
of_mode inner itself by_out = itself

-- of the parameters from a place on: an out parameter itself, and what is in any other
abbrev pub beyond_parameters : (Path → Bool) → ℕ → (Path → ℕ → List Path) → Path → ℕ → List Parameter → List Path
beyond_parameters here n next p k [] = []
beyond_parameters here n next p k (x ∷ xs) = of_mode (next (p ++ k ∷ []) x.content) (if_here_within here n (p ++ k ∷ [])) x.mode ++ beyond_parameters here n next p (suc k) xs

-- of the fields from a place on
abbrev pub beyond_fields : (Path → ℕ → List Path) → Path → ℕ → List ℕ → List Path
beyond_fields next p k [] = []
beyond_fields next p k (t ∷ ts) = next (p ++ k ∷ []) t ++ beyond_fields next p (suc k) ts

abbrev pub beyond_parts : (Path → Bool) → ℕ → (Path → ℕ → List Path) → Path → Shape → List Path
beyond_parts here n next p (fields ts) = beyond_fields next p 0 ts
beyond_parts here n next p (callmessage ps raises) = beyond_parameters here n next p 0 ps
beyond_parts here n next p s = []

-- The paths of out parameters from a path of a type on at which there are values, down to so many types; and the path itself, where
-- there is no such type. A law says that a value of the type holds just these beyond a full one.
-- Language reference, "Excess".
abbrev pub beyond : (Path → Bool) → TypeTable → ℕ → Path → ℕ → List Path
beyond here table zero p t = []
beyond here table (suc n) p t = map_or (if_here here p) (beyond_parts here n (beyond here table n) p) (slice_get table t)

abbrev pub is_out : Mode → Bool
is_out by_in = false
is_out by_inout = false
is_out by_out = true

abbrev pub may_hold_more : (ℕ → Bool) → Shape → Bool
may_hold_more next (fields ts) = any_pass next ts
may_hold_more next (callmessage ps raises) = any_pass (λ (x : Parameter). is_out x.mode || next x.content) ps
may_hold_more next s = false

-- whether the values of a type may hold more than full ones: some out parameter is among its parts, or the type is not known
abbrev pub may_exceed : TypeTable → ℕ → ℕ → Bool
may_exceed table zero t = false
may_exceed table (suc n) t = map_or true (may_hold_more (may_exceed table n)) (slice_get table t)
