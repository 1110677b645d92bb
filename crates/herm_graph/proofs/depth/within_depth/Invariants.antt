use Rattle.herm_types.specs.Chosen.{lists}
use Rattle.herm_graph.specs.Depth.{SayWithin}
use Rattle.herm_graph.proofs.depth.within_depth.Given as goal

abbrev pub invariant-rounds : goal.invariant-rounds
invariant-rounds l = SayWithin l.counter (lists l.next) l.tests.items
