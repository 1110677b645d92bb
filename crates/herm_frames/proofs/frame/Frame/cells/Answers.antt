use Rattle.std.proofs.Common.{refl, sym, ap, subst, ◌∙◌}
use Rattle.herm_model.specs.CellNames.{count_in}
use Rattle.herm_model.specs.Lists.{total}
use Rattle.herm_places.specs.Held.{seen_places}
use Rattle.herm_frames.specs.Counts.{cut}
use Rattle.herm_frames.specs.Standing.{Stands}
use Rattle.herm_frames.proofs.HeldCells.{held_cells, rows_in}
use Rattle.herm_frames.proofs.frame.Frame.cells.Goals as goal

pub returns : goal.returns
returns c = record {
  held = λ s h.
      held_cells _ s c.self.inside.loops.items c.cells_at-variables.result c.cells_of_loops-loops.result c.sum.result c.len-work.result c.sum-2.result (subst (λ f. Stands f s) (sym c.self.view_is) h)
      (c.cells_at-variables.ensures.cells ∙ ap (λ vs. cut (count_in (seen_places vs))) c.places.ensures.places)
      (c.cells_of_loops-loops.ensures.cells ∙ ap (λ ls. cut (total rows_in ls)) c.as_slice.ensures.value) refl c.len-work.ensures.count c.sum.ensures.sum c.sum-2.ensures.sum;
}
