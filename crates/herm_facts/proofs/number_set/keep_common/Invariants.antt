use Rattle.herm_facts.proofs.NumberSets.{HaveMet}
use Rattle.herm_facts.proofs.number_set.keep_common.Given as goal

abbrev pub invariant-loop-i : goal.invariant-loop-i
invariant-loop-i l = HaveMet l.initial.words l.others l.words l.i
