use Rattle.std.proofs.Common.{◌≡◌, ℕ, true, take}
use Rattle.herm_model.specs.Lists.{IsIn}
use Rattle.herm_facts.specs.NumberSets.{has_number}
use Rattle.herm_check.proofs.alike.are_in.Given as goal

abbrev pub invariant-loop-m : goal.invariant-loop-m
invariant-loop-m l = (m : ℕ) → IsIn m (take l.m-index l.numbers) → has_number l.set m ≡ true
