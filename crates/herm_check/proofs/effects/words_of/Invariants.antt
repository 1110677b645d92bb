use Rattle.std.proofs.Common.{◌≡◌, ℕ, ◌+◌, ◌*◌, ◌<◌}
use Rattle.herm_facts.specs.declared.fact_set.FactSet.{FactSet}
use Rattle.herm_facts.specs.declared.sparse_set.SparseSet.{SparseSet}
use Rattle.herm_facts.specs.FactSets.{has}
use Rattle.herm_facts.specs.SparseSets.{has_sparse}
use Rattle.herm_check.proofs.Making.{AreEach}
use Rattle.herm_check.proofs.effects.words_of.Given as goal

abbrev pub invariant-loop-set : goal.invariant-loop-set
invariant-loop-set l = AreEach (λ (s : SparseSet) (w : FactSet). (j : ℕ) → j < 64 → has w j ≡ has_sparse s (64 * l.search + j)) l.sets l.words.items l.set-index
