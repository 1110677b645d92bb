use Rattle.std.proofs.Common.{◌≡◌, ◌<◌, ◌||◌, not, nat_lt, ℕ, length}
use Rattle.herm_types.specs.Table.{says}
use Rattle.herm_graph.specs.Depth.{count_at}
use Rattle.herm_graph.proofs.depth.beyond.Given as goal

abbrev pub invariant-loop-t : goal.invariant-loop-t
invariant-loop-t l = record {
  each : length l.tests.items ≡ l.t;
  said : (u : ℕ) → u < l.t → says l.tests.items u ≡ (nat_lt 1024 (count_at l.counts u) || not (says l.within u));
}
