use Rattle.std.proofs.Common.{◌≤◌, ◌-◌, length}
use Rattle.herm_links.specs.Lists.{entries_of}
use Rattle.herm_rows.specs.Nodes.{AllBelow, AllAbove}
use Rattle.herm_rows.proofs.index.place_of_row.Given as goal

abbrev pub invariant-loop-low : goal.invariant-loop-low
invariant-loop-low g l = record {
  ordered : l.low ≤ l.high;
  within : l.high ≤ length l.index;
  below : AllBelow (λ row. g.R.Row.order row l.row) (entries_of l.links 0) l.index l.low;
  above : AllAbove (λ row. g.R.Row.order row l.row) (entries_of l.links 0) l.index l.high;
}

abbrev pub decreases-loop-low : goal.decreases-loop-low
decreases-loop-low g l = l.high - l.low
