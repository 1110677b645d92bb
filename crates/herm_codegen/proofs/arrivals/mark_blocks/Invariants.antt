use Rattle.std.proofs.Common.{◌≡◌, map, drop}
use Rattle.herm_blocks.specs.Views.{block_view}
use Rattle.herm_codegen.specs.Arrivals.{marks_view, with_blocks}
use Rattle.herm_codegen.proofs.arrivals.mark_blocks.Given as goal

abbrev pub invariant-each : goal.invariant-each
invariant-each l = with_blocks (map block_view (drop l.block-index l.blocks)) (marks_view l.arrivals) ≡ with_blocks (map block_view l.blocks) (marks_view l.fn.arrivals)
