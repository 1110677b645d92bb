use Rattle.std.proofs.Common.{◌≡◌, ◌≤◌, ◌+◌, ◌^◌, min, drop}
use Rattle.herm_model.specs.CellNames.{count_in}
use Rattle.herm_model.specs.Lists.{total}
use Rattle.herm_places.specs.Held.{seen_places}
use Rattle.herm_frames.proofs.held.cells_of_loops.Given as goal

abbrev pub invariant-loops : goal.invariant-loops
invariant-loops l = record {
  small : l.total ≤ 2 ^ 63;
  whole : min (l.total + total (λ x. count_in (seen_places x.rows)) (drop l.each-index l.loops)) (2 ^ 63) ≡ min (total (λ x. count_in (seen_places x.rows)) l.loops) (2 ^ 63);
}
