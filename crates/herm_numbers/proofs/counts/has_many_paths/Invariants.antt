use Rattle.std.proofs.Common.{◌≡◌, ◌≤◌, map, drop}
use Rattle.herm_numbers.specs.Counts.{paths_by}
use Rattle.herm_numbers.proofs.counts.has_many_paths.Given as goal

abbrev pub invariant-variables : goal.invariant-variables
invariant-variables l = record {
  few : l.paths ≤ 4097;
  sum : paths_by l.counts l.paths (map (λ t. t.0) (drop l.t-index l.of)) ≡ paths_by l.counts 0 (map (λ t. t.0) l.of);
}
