use Rattle.std.proofs.Common.{◌≡◌, ◌++◌, [], map, drop}
use Rattle.herm_fronts.specs.Frames.{table_of, variables_of}
use Rattle.herm_blocks.specs.Views.{slots_view}
use Rattle.herm_blocks.specs.Seen.{drops_view, seen_node, ways_view}
use Rattle.herm_blocks.specs.Scopes.{ways_by}
use Rattle.herm_blocks.proofs.ways.ways_of.Given as goal

abbrev pub invariant-nodes : goal.invariant-nodes
invariant-nodes l =
    map ways_view l.found.items ++ ways_by (table_of l.frame) (variables_of l.frame) l.scope.numbers.now l.scope.lengths.now (map seen_node l.nodes) l.i (slots_view l.before.items) (map seen_node (drop l.i l.nodes)) (map (λ v. drops_view v.items) l.drops)
    ≡ ways_by (table_of l.frame) (variables_of l.frame) l.scope.numbers.now l.scope.lengths.now (map seen_node l.nodes) 0 [] (map seen_node l.nodes) (map (λ v. drops_view v.items) l.drops)
