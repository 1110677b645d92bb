use Rattle.std.proofs.Common.{◌≡◌, nat_eq, drop}
use Rattle.herm_model.specs.Lists.{any_pass}
use Rattle.herm_blocks.specs.Views.{slots_view}
use Rattle.herm_blocks.proofs.edges.has_slot.Given as goal

abbrev pub invariant-slots : goal.invariant-slots
invariant-slots l = any_pass (λ s. nat_eq s.number l.number) (slots_view (drop l.slot-index l.slots)) ≡ any_pass (λ s. nat_eq s.number l.number) (slots_view l.slots)
