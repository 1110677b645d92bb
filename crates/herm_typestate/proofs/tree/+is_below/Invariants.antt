use Rattle.herm_typestate.proofs.Within.{AreWithin}
use Rattle.herm_typestate.proofs.tree.+is_below.Given as goal

abbrev pub invariant-loop-i : goal.invariant-loop-i
invariant-loop-i l = AreWithin l.trees l.others l.i
