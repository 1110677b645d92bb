use Rattle.std.proofs.Common.{◌≡◌, map, take}
use Rattle.herm_types.specs.Chosen.{lists}
use Rattle.herm_graph.specs.Links.{names_beyond}
use Rattle.herm_graph.proofs.unknown.any_unknown_in.Given as goal

abbrev pub invariant-loop-types : goal.invariant-loop-types
invariant-loop-types l = l.tests.items ≡ map (names_beyond l.count) (lists (take l.types-index l.next))
