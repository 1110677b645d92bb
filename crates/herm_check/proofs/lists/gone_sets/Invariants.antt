use Rattle.std.proofs.Common.{map}
use Rattle.std.specs.declared.vec.Vec.{Vec}
use Rattle.std.specs.declared.alloc.Global.{Global}
use Rattle.herm_types.specs.declared.fact.Path.{Path}
use Rattle.herm_types.specs.View.{path_view}
use Rattle.herm_facts.specs.declared.sparse_set.SparseSet.{SparseSet}
use Rattle.herm_facts.specs.SparseSets.{has_sparse}
use Rattle.herm_check.specs.Lists.{HasBelow}
use Rattle.herm_check.proofs.Making.{AreEach}
use Rattle.herm_check.proofs.lists.gone_sets.Given as goal

abbrev pub invariant-loop-paths : goal.invariant-loop-paths
invariant-loop-paths l = AreEach (λ (v : Vec Path Global) (s : SparseSet). HasBelow l.numbers (map path_view v.items) (has_sparse s)) l.gone l.sets.items l.paths-index
