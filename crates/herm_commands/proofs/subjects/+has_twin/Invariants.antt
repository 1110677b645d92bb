use Rattle.std.proofs.Common.{length}
use Rattle.herm_commands.proofs.subjects.+has_twin.Given as goal

abbrev pub decreases-has_twin : goal.decreases-has_twin
decreases-has_twin l = length l.words.now
