use Rattle.std.proofs.Common.{ℕ, drop}
use Rattle.herm_model.specs.Lists.{IsIn}
use Rattle.herm_flow.proofs.calls.are_placed.Given as goal

-- What is left decides.
abbrev pub invariant-each : goal.invariant-each
invariant-each l = ((n : ℕ) → IsIn n (drop l.number-index l.numbers) → IsIn n l.found) → (n : ℕ) → IsIn n l.numbers → IsIn n l.found
