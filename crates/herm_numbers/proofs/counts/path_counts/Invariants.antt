use Rattle.std.proofs.Common.{◌≡◌, ◌≤◌, ◌++◌, ℕ, map, take, drop}
use Rattle.herm_types.specs.Chosen.{lists}
use Rattle.herm_numbers.specs.Counts.{count_at, paths_by, CountPaths}
use Rattle.herm_numbers.proofs.counts.path_counts.Given as goal

abbrev pub invariant-rounds : goal.invariant-rounds
invariant-rounds l = CountPaths l.counter (lists l.parts) l.counts.items
