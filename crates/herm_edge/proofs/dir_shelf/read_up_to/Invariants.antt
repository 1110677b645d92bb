use Rattle.std.proofs.Common.{◌≡◌, ◌≤◌, ◌-◌, vec_len}
use Rattle.std.specs.Io.KnownBytes.{Consumes}
use Rattle.herm_edge.proofs.dir_shelf.read_up_to.Given as goal

abbrev pub invariant-loop-file : goal.invariant-loop-file
invariant-loop-file g l = (vec_len l.bytes ≤ l.limit) × Consumes (g.F.Read.remaining l.initial.file.reader) (g.F.Read.remaining l.file.reader) l.bytes.items × (l.file.faults ≡ l.initial.file.faults)

abbrev pub decreases-loop-file : goal.decreases-loop-file
decreases-loop-file g l = l.limit - vec_len l.bytes
