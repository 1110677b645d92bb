use Rattle.herm_frames.proofs.HeldCells.{cut_joined}
use Rattle.herm_frames.proofs.held.cells_of.Goals as goal

pub returns : goal.returns
returns c = record {
  cells = cut_joined (c.as_slices.result.0).now (c.as_slices.result.1).now c.args.rows.now.items c.cells_at.result c.cells_at-2.result c.sum.result c.cells_at.ensures.cells c.cells_at-2.ensures.cells c.sum.ensures.sum c.as_slices.ensures.items;
}
