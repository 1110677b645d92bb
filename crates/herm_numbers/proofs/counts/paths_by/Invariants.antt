use Rattle.std.proofs.Common.{◌≡◌, ◌≤◌, ◌++◌, ℕ, map, take, drop}
use Rattle.herm_types.specs.Chosen.{lists}
use Rattle.herm_numbers.specs.Counts.{count_at, paths_by, CountPaths}
use Rattle.herm_numbers.proofs.counts.paths_by.Given as goal

abbrev pub invariant-loop-part : goal.invariant-loop-part
invariant-loop-part l = record {
  few : l.paths ≤ 4097;
  sum : paths_by l.counts l.paths (drop l.part-index l.parts) ≡ paths_by l.counts 1 l.parts;
}
