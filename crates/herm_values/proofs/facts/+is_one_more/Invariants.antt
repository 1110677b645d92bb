use Rattle.std.proofs.Common.{length}
use Rattle.herm_values.proofs.facts.+is_one_more.Given as goal

abbrev pub decreases-is_one_more : goal.decreases-is_one_more
decreases-is_one_more l = length l.parts.now
