use Rattle.std.proofs.Common.{length}
use Rattle.herm_frames.proofs.excess.+push_excess.Given as goal

abbrev pub decreases-push_excess : goal.decreases-push_excess
decreases-push_excess l = length l.paths.now
