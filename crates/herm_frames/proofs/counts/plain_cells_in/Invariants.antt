use Rattle.std.proofs.Common.{◌≡◌, ◌+◌, ◌^◌, suc, min, drop, length}
use Rattle.herm_model.specs.Finalising.{finalised_in, pending_in}
use Rattle.herm_values.specs.Parts.{parts_from}
use Rattle.herm_values.specs.View.{views_of}
use Rattle.herm_frames.specs.PlainRecords.{are_plain}
use Rattle.herm_frames.proofs.counts.plain_cells_in.Given as goal

abbrev pub invariant-places : goal.invariant-places
invariant-places l = record {
  plain : are_plain (parts_from (views_of (drop l.held-index l.places))) ≡ are_plain (parts_from (views_of l.places));
  waits : pending_in (parts_from (views_of (drop l.held-index l.places))) ≡ pending_in (parts_from (views_of l.places));
  counted : min (l.count + length (finalised_in (parts_from (views_of (drop l.held-index l.places))))) (2 ^ 63) ≡ min (suc (length (finalised_in (parts_from (views_of l.places))))) (2 ^ 63);
}
