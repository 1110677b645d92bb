use Rattle.std.proofs.Common.{◌≡◌, ℕ, take, Some, slice_get}
use Rattle.herm_model.specs.Lists.{IsIn}
use Rattle.herm_check.specs.declared.search.Visit.{Visit}
use Rattle.herm_check.specs.Searched.{IsOf}
use Rattle.herm_check.proofs.search.lost_place.Given as goal

abbrev pub invariant-loop-place : goal.invariant-loop-place
invariant-loop-place l = (k : ℕ) → IsIn k (take l.place-index l.place-items) → (v : Visit) → slice_get l.search.visits.items k ≡ Some v → IsOf l.number v → ⊥
