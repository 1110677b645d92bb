use Rattle.std.proofs.Common.{take}
use Rattle.std.specs.Prelude.{Ok}
use Rattle.herm_edge.specs.Buffered.{held_bytes, IsSound, IsPut}
use Rattle.herm_refusals.specs.RefusalLines.{refusals_text}
use Rattle.herm_refusals.proofs.lines.put_refusals.Given as goal

abbrev pub invariant-loop-fault : goal.invariant-loop-fault
invariant-loop-fault g l = record {
  sound : IsSound l.buffer;
  put : IsPut (refusals_text l.names (take l.fault-index l.faults)) (g.S.Sink.written l.initial.sink) (g.S.Sink.written l.sink) (g.S.Sink.faults l.initial.sink) (g.S.Sink.faults l.sink) (held_bytes l.initial.buffer) (held_bytes l.buffer) (Ok tt);
}
