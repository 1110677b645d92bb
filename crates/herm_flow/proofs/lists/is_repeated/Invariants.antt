use Rattle.std.proofs.Common.{◌≡◌, length}
use Rattle.herm_flow.proofs.lists.is_repeated.Given as goal

abbrev pub invariant-each : goal.invariant-each
invariant-each l = l.i-end ≡ length l.edges
