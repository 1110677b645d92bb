use Rattle.herm_types.specs.Chosen.{lists}
use Rattle.herm_graph.specs.Depth.{CountPaths}
use Rattle.herm_graph.proofs.depth.path_counts.Given as goal

abbrev pub invariant-rounds : goal.invariant-rounds
invariant-rounds l = CountPaths l.counter (lists l.parts) l.counts.items
