use Rattle.std.proofs.Common.{◌≡◌, ◌++◌, drop}
use Rattle.herm_blocks.specs.Views.{slots_view}
use Rattle.herm_blocks.specs.Scopes.{left_by}
use Rattle.herm_blocks.proofs.edges.slots_left.Given as goal

abbrev pub invariant-slots : goal.invariant-slots
invariant-slots l = l.found.items ++ left_by l.scope.numbers.now l.scope.lengths.now (slots_view (drop l.slot-index l.slots)) l.node ≡ left_by l.scope.numbers.now l.scope.lengths.now (slots_view l.slots) l.node
