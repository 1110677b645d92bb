use Rattle.std.proofs.Common.{length}
use Rattle.herm_facts.proofs.numbered.+give.Given as goal

abbrev pub decreases-give : goal.decreases-give
decreases-give l = length l.rest.now
