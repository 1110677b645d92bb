use Rattle.herm_facts.proofs.Filled.{AreFilled}
use Rattle.herm_facts.proofs.sparse_words.filled_words.Given as goal

abbrev pub invariant-loop-at : goal.invariant-loop-at
invariant-loop-at l = AreFilled l.words l.at l.filled.items
