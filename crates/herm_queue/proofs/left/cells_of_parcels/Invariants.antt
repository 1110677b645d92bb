use Rattle.std.proofs.Common.{◌≡◌, ◌≤◌, ◌^◌, ◌+◌, length, map}
use Rattle.herm_journal.specs.Weights.{weigh_all}
use Rattle.herm_system.specs.Summary.{cut}
use Rattle.herm_values.specs.View.{value_view}
use Rattle.herm_queue.specs.MessageStates.{values_of}
use Rattle.herm_queue.proofs.left.cells_of_parcels.Given as goal

-- what is counted so far, with the rest, is the whole
abbrev pub invariant-parcels : goal.invariant-parcels
invariant-parcels l = (cut (l.cells + weigh_all (λ n. 1) (map value_view (values_of l.parcels.parcels))) ≡ cut (weigh_all (λ n. 1) (map value_view (values_of l.initial.parcels.parcels)))) × (l.cells ≤ 2 ^ 63)

abbrev pub decreases-parcels : goal.decreases-parcels
decreases-parcels l = length l.parcels.parcels
