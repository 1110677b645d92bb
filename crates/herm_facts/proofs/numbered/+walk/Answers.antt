use Rattle.std.proofs.Common.{subst}
use Rattle.herm_facts.specs.Numbers.{Appends}
use Rattle.herm_facts.proofs.Walk.{InTrees, TreesOnce, tree_added, none_before, before_next, all_before}
use Rattle.herm_facts.proofs.numbered.+walk.Goals as goal

pub push_tree-returns : goal.push_tree-returns
push_tree-returns t c =
    tree_added c.args.tree.now c.args.out.now.items c.push_own.new.out.items c.push_trees.new.out.items c.in_ok-push_own.ensures
    (subst (λ ts. Appends (TreesOnce ts) (InTrees ts) c.push_own.new.out.items c.push_trees.new.out.items) c.parts_of.ensures c.in_ok-push_trees.ensures)

pub push_trees-loop-tree-init : goal.push_trees-loop-tree-init
push_trees-loop-tree-init t c = none_before c.args.trees.now c.args.out.now.items

pub push_trees-loop-tree-preserved : goal.push_trees-loop-tree-preserved
push_trees-loop-tree-preserved t c =
    before_next c.args.trees.now c.loop-tree.tree-index c.tree-item.result c.args.out.now.items c.loop-tree.out.items c.push_tree.new.out.items c.loop-tree-test.true c.tree-item.is c.loop-tree.invariant c.in_ok-push_tree.ensures

pub push_trees-returns : goal.push_trees-returns
push_trees-returns t c = all_before c.args.trees.now c.loop-tree.tree-index c.args.out.now.items c.loop-tree.out.items c.loop-tree-test.false c.loop-tree.invariant
