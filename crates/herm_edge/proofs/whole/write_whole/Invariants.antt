use Rattle.std.proofs.Common.{length, ◌-◌, ◌≡◌, ◌≤◌, take}
use Rattle.herm_edge.specs.Sink.{written_after}
use Rattle.herm_edge.proofs.whole.write_whole.Given as goal

abbrev pub invariant-loop-taken : goal.invariant-loop-taken
invariant-loop-taken g l =
    (l.taken ≤ length l.bytes) ×
    (g.S.Sink.written l.sink ≡ written_after (g.S.Sink.written l.initial.sink) (take l.taken l.bytes)) ×
    (l.taken ≡ 0 → l.sink ≡ l.initial.sink) ×
    (g.S.Sink.faults l.sink ≡ g.S.Sink.faults l.initial.sink)

abbrev pub decreases-loop-taken : goal.decreases-loop-taken
decreases-loop-taken g l = length l.bytes - l.taken
