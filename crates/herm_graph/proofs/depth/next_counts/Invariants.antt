use Rattle.std.proofs.Common.{◌≡◌, map, take}
use Rattle.herm_types.specs.Chosen.{lists}
use Rattle.herm_graph.specs.Depth.{paths_by}
use Rattle.herm_graph.proofs.depth.next_counts.Given as goal

abbrev pub invariant-loop-types : goal.invariant-loop-types
invariant-loop-types l = l.counts_after.items ≡ map (paths_by l.counts 1) (lists (take l.types-index l.parts))
