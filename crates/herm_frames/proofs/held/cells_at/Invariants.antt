use Rattle.std.proofs.Common.{◌≡◌, ◌≤◌, ◌+◌, ◌^◌, min, drop}
use Rattle.herm_model.specs.CellNames.{count_in}
use Rattle.herm_values.specs.Parts.{parts_from}
use Rattle.herm_values.specs.View.{views_of}
use Rattle.herm_frames.proofs.held.cells_at.Given as goal

abbrev pub invariant-places : goal.invariant-places
invariant-places l = record {
  small : l.total ≤ 2 ^ 63;
  whole : min (l.total + count_in (parts_from (views_of (drop l.held-index l.places)))) (2 ^ 63) ≡ min (count_in (parts_from (views_of l.places))) (2 ^ 63);
}
