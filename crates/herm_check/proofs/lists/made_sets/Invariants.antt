use Rattle.std.proofs.Common.{map}
use Rattle.std.specs.declared.vec.Vec.{Vec}
use Rattle.std.specs.declared.alloc.Global.{Global}
use Rattle.herm_types.specs.declared.fact.Fact.{Fact}
use Rattle.herm_types.specs.View.{fact_view}
use Rattle.herm_facts.specs.declared.sparse_set.SparseSet.{SparseSet}
use Rattle.herm_facts.specs.SparseSets.{has_sparse}
use Rattle.herm_check.specs.Lists.{HasFacts}
use Rattle.herm_check.proofs.Making.{AreEach}
use Rattle.herm_check.proofs.lists.made_sets.Given as goal

abbrev pub invariant-loop-facts : goal.invariant-loop-facts
invariant-loop-facts l = AreEach (λ (v : Vec Fact Global) (s : SparseSet). HasFacts l.numbers (map fact_view v.items) (has_sparse s)) l.made l.sets.items l.facts-index
