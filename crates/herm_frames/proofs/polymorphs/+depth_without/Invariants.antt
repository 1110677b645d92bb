use Rattle.std.proofs.Common.{length}
use Rattle.herm_frames.proofs.polymorphs.+depth_without.Given as goal

abbrev pub decreases-depth_without : goal.decreases-depth_without
decreases-depth_without l = length l.paths.now
