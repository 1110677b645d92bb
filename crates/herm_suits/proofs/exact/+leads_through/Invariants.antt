use Rattle.std.proofs.Common.{length}
use Rattle.herm_suits.proofs.exact.+leads_through.Given as goal

abbrev pub decreases-leads_through : goal.decreases-leads_through
decreases-leads_through l = length l.path.now
