use Rattle.std.proofs.Common.{length}
use Rattle.herm_suits.proofs.replies.+are_returned.Given as goal

abbrev pub decreases-are_returned : goal.decreases-are_returned
decreases-are_returned l = length l.params.now
