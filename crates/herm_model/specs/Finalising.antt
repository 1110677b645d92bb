-- What becomes of the cells of a value that is finalised, and which paths an edge or a send drops.
use Rattle.std.specs.Prelude.{ℕ, zero, suc, List, [], ◌∷◌, ◌++◌, Bool, true, false, cond, not, ◌&&◌, flat_map, slice_get}
use Rattle.herm_model.specs.Lists.{any_pass, numbered, map_or, list_of}
use Rattle.herm_model.specs.Paths.{Path, Fact, init, same_fact}
use Rattle.herm_model.specs.Types.{TypeTable, greatest_depth, held_parts}
use Rattle.herm_model.specs.Values.{Kind, an_inport, a_callmessage, Cell, cell, Parts, no_parts, gap, part, cell_at, clear_at}

-- the cells that wait on the work list for an action of their own: inports and callmessages
abbrev pub waits : Kind → Bool
waits (an_inport port) = true
waits (a_callmessage caller call) = true
waits k = false

-- The names that are finalised at once when a value is, in the order of a walk: each but those of inports and
-- callmessages. Language reference, "Finalising".
abbrev mutual
  pub finalised : {N : Type 0} → Cell N → List N
  finalised (cell n k ps) = cond (waits k) [] (n ∷ []) ++ finalised_in ps

  pub finalised_in : {N : Type 0} → Parts N → List N
  finalised_in no_parts = []
  finalised_in (gap ps) = finalised_in ps
  finalised_in (part c ps) = finalised c ++ finalised_in ps

-- The cells that go to the end of the work list when a value is finalised, in the order of a walk, a callmessage
-- before what its parameters hold. There they have no parts, since those are walked too.
-- Language reference, "Finalising".
abbrev mutual
  pub pending : {N : Type 0} → Cell N → List (Cell N)
  pending (cell n k ps) = cond (waits k) (cell n k no_parts ∷ []) [] ++ pending_in ps

  pub pending_in : {N : Type 0} → Parts N → List (Cell N)
  pending_in no_parts = []
  pending_in (gap ps) = pending_in ps
  pending_in (part c ps) = pending c ++ pending_in ps

-- the path is here and not kept
abbrev pub is_left : (Path → Bool) → (Path → Bool) → Path → Bool
is_left is_here is_kept p = is_here p && not (is_kept p)

-- The topmost paths that are left over, from a path of a type on: the path itself where it is left, and else those
-- of its fields or parameters in order, down to so many types. Language reference, "Excess".
abbrev pub excess_from : (Path → Bool) → ℕ → TypeTable → Path → ℕ → List Path
excess_from left zero table p t = []
excess_from left (suc n) table p t = cond (left p) (p ∷ []) (map_or [] (λ s. flat_map (λ part. excess_from left n table (p ++ part.0 ∷ []) part.1) (held_parts s)) (slice_get table t))

-- What a statement drops of the value at a path of this type, where it leaves with what is kept.
abbrev pub excess_at : TypeTable → (Path → Bool) → (Path → Bool) → Path → ℕ → List Path
excess_at table is_here is_kept p t = excess_from (is_left is_here is_kept) greatest_depth table p t

-- What an edge drops, by variables and then by parts, where the variables have these types.
abbrev pub excess : TypeTable → List ℕ → (Path → Bool) → (Path → Bool) → List Path
excess table variables is_here is_kept = flat_map (λ v. excess_at table is_here is_kept (v.0 ∷ []) v.1) (numbered 0 variables)

-- there is a value at the path by these facts
abbrev pub keeps : List Fact → Path → Bool
keeps facts p = any_pass (same_fact (init p)) facts

-- the cells at these paths, in order
abbrev pub cells_at : {N : Type 0} → List Path → Parts N → List (Cell N)
cells_at paths ps = flat_map (λ p. list_of (λ c. c ∷ []) (cell_at p ps)) paths

-- the parts with nothing at these paths
abbrev pub clear_all : {N : Type 0} → List Path → Parts N → Parts N
clear_all [] ps = ps
clear_all (p ∷ paths) ps = clear_all paths (clear_at p ps)
