use Rattle.std.proofs.Common.{◌≡◌, length, ◌⊎◌}
use Rattle.herm_types.specs.Table.{SayCopyable, shapes_view}
use Rattle.herm_types.proofs.copyable.copyable_of.Given as goal

abbrev pub invariant-rounds : goal.invariant-rounds
invariant-rounds l = record {
  say : SayCopyable l.counter (shapes_view l.shapes) l.tests.items;
  each : (l.counter ≡ 0) ⊎ (length l.tests.items ≡ length l.shapes);
}
