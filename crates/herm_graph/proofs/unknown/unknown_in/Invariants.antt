use Rattle.std.proofs.Common.{◌≡◌, map, take}
use Rattle.herm_types.specs.Table.{shapes_view}
use Rattle.herm_graph.specs.Links.{has_unknown}
use Rattle.herm_graph.proofs.unknown.unknown_in.Given as goal

abbrev pub invariant-loop-t : goal.invariant-loop-t
invariant-loop-t l = l.unknown.items ≡ map (has_unknown l.count l.exceptions) (shapes_view (take l.t l.shapes))
