use Rattle.std.proofs.Common.{◌≡◌, map, take}
use Rattle.herm_graph.proofs.links.part_types.Given as goal

abbrev pub invariant-loop-part : goal.invariant-loop-part
invariant-loop-part l = l.types.items ≡ map (λ p. p.of.0) (take l.part-index l.parts)
