use Rattle.std.proofs.Common.{length}
use Rattle.herm_typestate.proofs.tree.+make.Given as goal

abbrev pub decreases-make : goal.decreases-make
decreases-make l = length l.rest.now
