use Rattle.herm_facts.specs.Numbers.{Appends}
use Rattle.herm_facts.proofs.Walk.{Before, TreesOnce}
use Rattle.herm_facts.proofs.numbered.+walk.Given as goal

abbrev pub invariant-push_trees-loop-tree : goal.invariant-push_trees-loop-tree
invariant-push_trees-loop-tree l = Appends (TreesOnce l.trees) (Before l.trees l.tree-index) l.initial.out.items l.out.items
