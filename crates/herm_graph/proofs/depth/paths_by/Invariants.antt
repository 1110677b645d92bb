use Rattle.std.proofs.Common.{◌≡◌, ◌≤◌, drop}
use Rattle.herm_graph.specs.Depth.{paths_by}
use Rattle.herm_graph.proofs.depth.paths_by.Given as goal

abbrev pub invariant-loop-part : goal.invariant-loop-part
invariant-loop-part l = record {
  few : l.paths ≤ 1025;
  sum : paths_by l.counts l.paths (drop l.part-index l.parts) ≡ paths_by l.counts 1 l.parts;
}
