use Rattle.std.proofs.Common.{length}
use Rattle.herm_frames.proofs.rows.+leave.Given as goal

abbrev pub decreases-leave : goal.decreases-leave
decreases-leave l = length l.loops.now.items
