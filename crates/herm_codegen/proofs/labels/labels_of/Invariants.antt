use Rattle.std.proofs.Common.{◌≡◌, ◌++◌, map, drop}
use Rattle.std.specs.Vec.Iter.{into_iter_items}
use Rattle.herm_fronts.specs.Frames.{table_of, variables_of}
use Rattle.herm_blocks.specs.Views.{block_view}
use Rattle.herm_codegen.specs.Arrivals.{is_marked_at}
use Rattle.herm_codegen.specs.Emitted.{fronts_in}
use Rattle.herm_codegen.specs.Listed.{listed_view, keyed_labels_from}
use Rattle.herm_codegen.proofs.labels.labels_of.Given as goal

abbrev pub invariant-each : goal.invariant-each
invariant-each l = record {
  fronts : drop l.place l.fronts ≡ fronts_in (table_of l.frame) (variables_of l.frame) (map block_view (into_iter_items l.left));
  labels : map listed_view l.out.items ++ keyed_labels_from (table_of l.frame) (variables_of l.frame) (is_marked_at l.arrivals.first.items) (is_marked_at l.arrivals.again.items) l.place l.at (into_iter_items l.left)
      ≡ keyed_labels_from (table_of l.frame) (variables_of l.frame) (is_marked_at l.arrivals.first.items) (is_marked_at l.arrivals.again.items) 0 l.first l.fn.blocks.items;
}
