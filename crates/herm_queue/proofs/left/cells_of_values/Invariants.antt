use Rattle.std.proofs.Common.{◌≡◌, ◌≤◌, ◌^◌, ◌+◌, drop, map}
use Rattle.herm_journal.specs.Weights.{weigh_all}
use Rattle.herm_system.specs.Summary.{cut}
use Rattle.herm_values.specs.View.{value_view}
use Rattle.herm_queue.proofs.left.cells_of_values.Given as goal

-- what is counted so far, with the rest, is the whole
abbrev pub invariant-loop-value : goal.invariant-loop-value
invariant-loop-value l = (cut (l.cells + weigh_all (λ n. 1) (map value_view (drop l.value-index l.values))) ≡ cut (weigh_all (λ n. 1) (map value_view l.values))) × (l.cells ≤ 2 ^ 63)
