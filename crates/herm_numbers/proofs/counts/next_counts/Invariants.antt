use Rattle.std.proofs.Common.{◌≡◌, ◌≤◌, ◌++◌, ℕ, map, take, drop}
use Rattle.herm_types.specs.Chosen.{lists}
use Rattle.herm_numbers.specs.Counts.{count_at, paths_by, CountPaths}
use Rattle.herm_numbers.proofs.counts.next_counts.Given as goal

abbrev pub invariant-loop-types : goal.invariant-loop-types
invariant-loop-types l = l.counts_after.items ≡ map (paths_by l.counts 1) (lists (take l.types-index l.parts))
