use Rattle.std.proofs.Common.{◌≡◌, ◌<◌, ◌||◌, ℕ, false, map, length, get_or, drop}
use Rattle.herm_model.specs.Lists.{any_pass}
use Rattle.herm_translated.specs.BlockLabels.{goes_to_first}
use Rattle.herm_blocks.specs.Seen.{ways_view}
use Rattle.herm_blocks.proofs.led.mark_each.Given as goal

abbrev pub invariant-ways : goal.invariant-ways
invariant-ways l =
    (length l.led.items ≡ length l.fn.led.items) × ((i : ℕ) → i < length l.fn.led.items → (get_or l.led.items i false || any_pass (λ w. any_pass (λ d. goes_to_first i d.departure.arrival) w.departures) (map ways_view (drop l.way-index l.ways))) ≡ (get_or l.fn.led.items i false || any_pass (λ w. any_pass (λ d. goes_to_first i d.departure.arrival) w.departures) (map ways_view l.ways)))
