use Rattle.std.proofs.Common.{◌≡◌, ◌++◌, map, drop}
use Rattle.herm_types.specs.View.{fact_view}
use Rattle.herm_fronts.specs.Blocks.{marked_view}
use Rattle.herm_codegen.specs.Listed.{listed_view, edge_labels_with}
use Rattle.herm_blocks.specs.Views.{slots_view}
use Rattle.herm_codegen.proofs.labels.push_edge_labels.Given as goal

abbrev pub invariant-edges : goal.invariant-edges
invariant-edges l =
    map listed_view l.out.items ++ edge_labels_with l.at (map fact_view l.facts) (slots_view l.slots) (map marked_view (drop l.edge-index l.edges))
    ≡ map listed_view l.fn.out.items ++ edge_labels_with l.first (map fact_view l.facts) (slots_view l.slots) (map marked_view l.edges)
