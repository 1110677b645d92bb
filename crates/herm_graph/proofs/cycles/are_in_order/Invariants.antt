use Rattle.std.proofs.Common.{◌≡◌, ◌<◌, ◌≤◌, false, ℕ, length}
use Rattle.herm_types.specs.Table.{says}
use Rattle.herm_types.specs.Chosen.{lists}
use Rattle.herm_graph.specs.Graph.{IsNext, number_at}
use Rattle.herm_graph.proofs.cycles.are_in_order.Given as goal

abbrev pub invariant-loop-t : goal.invariant-loop-t
invariant-loop-t l = (t : ℕ) → t < l.t → (u : ℕ) → IsNext (lists l.next) t u → u < length (lists l.next) → (number_at l.places t ≤ number_at l.places u) × (says l.rings t ≡ false → number_at l.places t < number_at l.places u)
