use Rattle.herm_typestate.proofs.Meets.{HaveMet}
use Rattle.herm_typestate.proofs.tree.+meet.Given as goal

abbrev pub invariant-loop-i : goal.invariant-loop-i
invariant-loop-i l = HaveMet l.initial.trees.items l.others l.trees.items l.i
