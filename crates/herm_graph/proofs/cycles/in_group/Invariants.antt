use Rattle.std.proofs.Common.{◌≡◌, filter, take, nat_eq}
use Rattle.herm_graph.specs.Graph.{number_at}
use Rattle.herm_graph.proofs.cycles.in_group.Given as goal

abbrev pub invariant-loop-t : goal.invariant-loop-t
invariant-loop-t l = l.same.items ≡ filter (λ t. nat_eq (number_at l.firsts t) l.first) (take l.t-index l.types)
