use Rattle.std.proofs.Common.{◌≡◌, ◌⊎◌, ℕ, take}
use Rattle.herm_model.specs.Lists.{IsIn}
use Rattle.herm_types.specs.Chosen.{lists}
use Rattle.herm_graph.specs.Graph.{IsNext}
use Rattle.herm_graph.proofs.hints.put_all.Given as goal

abbrev pub invariant-loop-v : goal.invariant-loop-v
invariant-loop-v l = (u w : ℕ) → IsNext (lists l.before) u w → IsNext (lists l.fn.before) u w ⊎ ((w ≡ l.t) × IsIn u (take l.v-index l.types))
