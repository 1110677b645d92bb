use Rattle.std.proofs.Common.{◌≡◌, ◌++◌, map, drop}
use Rattle.herm_fronts.specs.Frames.{table_of, variables_of}
use Rattle.herm_fronts.specs.Lengths.{count_block, starts_from, end_from}
use Rattle.herm_blocks.specs.Views.{block_view}
use Rattle.herm_codegen.specs.Emitted.{fronts_in}
use Rattle.herm_codegen.proofs.layout.starts_of.Given as goal

abbrev pub invariant-each : goal.invariant-each
invariant-each l = record {
  fronts : l.left ≡ fronts_in (table_of l.frame) (variables_of l.frame) (map block_view (drop l.block-index l.blocks));
  at : l.at.items ++ starts_from l.end (map (count_block (table_of l.frame) (variables_of l.frame)) (map block_view (drop l.block-index l.blocks))) ≡ starts_from l.first (map (count_block (table_of l.frame) (variables_of l.frame)) (map block_view l.blocks));
  end : end_from l.end (map (count_block (table_of l.frame) (variables_of l.frame)) (map block_view (drop l.block-index l.blocks))) ≡ end_from l.first (map (count_block (table_of l.frame) (variables_of l.frame)) (map block_view l.blocks));
}
