use Rattle.std.proofs.Common.{◌≡◌, ◌++◌, map, drop}
use Rattle.herm_blocks.specs.Seen.{seen_node, seen_nodes}
use Rattle.herm_blocks.proofs.node.nodes_of.Given as goal

abbrev pub invariant-points : goal.invariant-points
invariant-points l = map seen_node l.found.items ++ seen_nodes (map (λ f. f.now) (drop l.i l.forms)) (drop l.i l.points) ≡ seen_nodes (map (λ f. f.now) l.forms) l.points
