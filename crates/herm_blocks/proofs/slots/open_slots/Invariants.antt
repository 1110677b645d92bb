use Rattle.std.proofs.Common.{◌≡◌, ◌++◌, drop}
use Rattle.herm_blocks.specs.Views.{slots_view}
use Rattle.herm_blocks.specs.Scopes.{open_at}
use Rattle.herm_blocks.proofs.slots.open_slots.Given as goal

abbrev pub invariant-slots : goal.invariant-slots
invariant-slots l = slots_view l.found.items ++ open_at l.lengths l.number (slots_view (drop l.slot-index l.slots)) ≡ open_at l.lengths l.number (slots_view l.slots)
