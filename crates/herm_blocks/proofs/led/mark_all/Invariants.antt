use Rattle.std.proofs.Common.{◌≡◌, ◌<◌, ◌||◌, ℕ, false, map, length, get_or, drop}
use Rattle.herm_model.specs.Lists.{any_pass}
use Rattle.herm_translated.specs.BlockLabels.{goes_to_first}
use Rattle.herm_fronts.specs.Blocks.{marked_view}
use Rattle.herm_blocks.proofs.led.mark_all.Given as goal

abbrev pub invariant-edges : goal.invariant-edges
invariant-edges l =
    (length l.led.items ≡ length l.fn.led.items) × ((i : ℕ) → i < length l.fn.led.items → (get_or l.led.items i false || any_pass (λ d. goes_to_first i d.departure.arrival) (map marked_view (drop l.edge-index l.edges))) ≡ (get_or l.fn.led.items i false || any_pass (λ d. goes_to_first i d.departure.arrival) (map marked_view l.edges)))
