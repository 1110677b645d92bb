use Rattle.std.proofs.Common.{◌≡◌, ℕ, ◌<◌, ◌+◌, ◌*◌, true}
use Rattle.herm_facts.specs.NumberSets.{has_number}
use Rattle.herm_facts.specs.SparseSets.{has_sparse}
use Rattle.herm_check.specs.Alike.{IsCovered}
use Rattle.herm_check.proofs.alike.is_set_covered.Given as goal

abbrev pub invariant-loop-at : goal.invariant-loop-at
invariant-loop-at l = (i j : ℕ) → i < l.at → j < 64 → has_sparse l.set (64 * i + j) ≡ true → IsCovered (has_number l.dense) l.firsts l.groups (64 * i + j)
