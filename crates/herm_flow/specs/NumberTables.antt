-- Tables by exception number: the points to which exceptions lead, and the places at which they are declared.
use Rattle.std.specs.Prelude.{ℕ, List, [], ◌∷◌, Bool, cond, nat_eq, Option, Some, None, option_map, is_some, slice_get}
use Rattle.herm_model.specs.Lists.{map_or, list_of}
use Rattle.herm_model.specs.Types.{Raised}
use Rattle.herm_model.specs.Outcomes.{disconnected}
use Rattle.herm_model.specs.Targets.{Target, node, end, end_by}

-- the entry of a number
abbrev pub at_number : List (Option ℕ) → ℕ → Option ℕ
at_number table e = map_or None (λ o. o) (slice_get table e)

-- the point to which a target leads
abbrev pub point_of : Target → Option ℕ
point_of (node i) = Some i
point_of end = None
point_of (end_by e) = None

-- what a call's exception keeps, where the call can raise it
abbrev pub kept_if_raised : List Raised → ℕ → Option (List ℕ)
kept_if_raised [] e = cond (nat_eq disconnected e) (Some []) None
kept_if_raised (r ∷ raises) e = cond (nat_eq r.exception e) (Some r.kept) (kept_if_raised raises e)

-- what the exception keeps that is declared at a place; nothing behind all places
abbrev pub kept_at : List Raised → Option ℕ → Option (List ℕ)
kept_at raises place = option_map (λ i. list_of (λ (r : Raised). r.kept) (slice_get raises i)) place

-- a number has an entry
abbrev pub has_entry : List (Option ℕ) → ℕ → Bool
has_entry table e = is_some (at_number table e)
