use Rattle.std.proofs.Common.{◌≡◌, ◌≤◌, ◌+◌, ◌^◌, ◌++◌, drop}
use Rattle.herm_model.specs.CellNames.{count_in}
use Rattle.herm_values.specs.Parts.{parts_from}
use Rattle.herm_values.specs.View.{views_of}
use Rattle.herm_values.specs.Whole.{AllWhole}
use Rattle.herm_frames.specs.Counts.{cut}
use Rattle.herm_frames.proofs.rows.copies_of_places.Given as goal

abbrev pub invariant-places : goal.invariant-places
invariant-places l = record {
  small : l.total ≤ 2 ^ 63;
  items : views_of l.rows.items ++ views_of (drop l.held-index l.places) ≡ views_of l.places;
  cells : cut (l.total + count_in (parts_from (views_of (drop l.held-index l.places)))) ≡ cut (count_in (parts_from (views_of l.places)));
  whole : AllWhole l.rows.items;
}
