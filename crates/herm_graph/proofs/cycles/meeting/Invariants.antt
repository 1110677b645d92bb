use Rattle.std.proofs.Common.{◌≡◌, ◌<◌, ◌||◌, ℕ, length}
use Rattle.herm_types.specs.Table.{says}
use Rattle.herm_graph.proofs.cycles.meeting.Given as goal

abbrev pub invariant-loop-t : goal.invariant-loop-t
invariant-loop-t l = record {
  each : length l.meets.items ≡ l.t;
  said : (u : ℕ) → u < l.t → says l.meets.items u ≡ (says l.goal u || says l.reaching u);
}
