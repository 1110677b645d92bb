use Rattle.std.proofs.Common.{length}
use Rattle.herm_suits.proofs.keys.+next_scalar.Given as goal

abbrev pub decreases-next_scalar : goal.decreases-next_scalar
decreases-next_scalar l = length l.columns.now
