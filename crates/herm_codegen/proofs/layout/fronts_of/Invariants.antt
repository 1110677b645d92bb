use Rattle.std.proofs.Common.{◌≡◌, ◌++◌, map, drop}
use Rattle.herm_fronts.specs.Frames.{table_of, variables_of}
use Rattle.herm_blocks.specs.Views.{block_view}
use Rattle.herm_codegen.specs.Emitted.{fronts_in}
use Rattle.herm_codegen.proofs.layout.fronts_of.Given as goal

abbrev pub invariant-each : goal.invariant-each
invariant-each l = l.fronts.items ++ fronts_in (table_of l.frame) (variables_of l.frame) (map block_view (drop l.block-index l.blocks)) ≡ fronts_in (table_of l.frame) (variables_of l.frame) (map block_view l.blocks)
