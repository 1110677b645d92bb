use Rattle.herm_facts.proofs.NumberSets.{IsExcess}
use Rattle.herm_facts.proofs.number_set.excess.Given as goal

abbrev pub invariant-loop-i : goal.invariant-loop-i
invariant-loop-i l = IsExcess l.words l.others l.i l.excess

abbrev pub invariant-loop-i-2 : goal.invariant-loop-i-2
invariant-loop-i-2 l = IsExcess l.words l.others l.i l.excess
