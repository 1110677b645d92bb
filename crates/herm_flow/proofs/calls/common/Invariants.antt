use Rattle.std.proofs.Common.{◌≡◌, ◌⊎◌, ℕ, drop, true}
use Rattle.herm_model.specs.Lists.{IsIn}
use Rattle.herm_flow.specs.Touched.{has_place}
use Rattle.herm_flow.proofs.calls.common.Given as goal

-- What has a place and is not left was found.
abbrev pub invariant-each : goal.invariant-each
invariant-each l = (n : ℕ) → IsIn n l.numbers → has_place l.places l.found n ≡ true → IsIn n l.common.items ⊎ IsIn n (drop l.number-index l.numbers)
