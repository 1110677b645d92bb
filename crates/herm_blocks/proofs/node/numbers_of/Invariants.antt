use Rattle.std.proofs.Common.{◌≡◌, ◌++◌, map, drop}
use Rattle.herm_blocks.proofs.node.numbers_of.Given as goal

abbrev pub invariant-points : goal.invariant-points
invariant-points l = l.found.items ++ map (λ p. p.stmt.0) (drop l.point-index l.points) ≡ map (λ p. p.stmt.0) l.points
