use Rattle.std.proofs.Common.{◌≡◌, take}
use Rattle.herm_values.specs.Keyed.{keyed_of}
use Rattle.herm_values.specs.Whole.{AllWhole}
use Rattle.herm_values.proofs.copying.+copying.Given as goal

abbrev pub invariant-copy_places-places : goal.invariant-copy_places-places
invariant-copy_places-places l = record {
  keyed : keyed_of l.copies.items ≡ keyed_of (take l.held-index l.places);
  whole : AllWhole l.copies.items;
}
