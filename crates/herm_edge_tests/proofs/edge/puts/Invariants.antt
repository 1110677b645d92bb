use Rattle.herm_edge.specs.Buffered.{IsSound}
use Rattle.herm_edge_tests.proofs.edge.puts.Given as goal

abbrev pub invariant-loop-piece : goal.invariant-loop-piece
invariant-loop-piece l = IsSound l.buffer
