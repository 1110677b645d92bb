use Rattle.std.proofs.Common.{◌≡◌, ℕ, List, length, take}
use Rattle.herm_typestate.specs.declared.tree.Mark.{Mark}
use Rattle.herm_typestate.specs.Trees.{has_mark}
use Rattle.herm_typestate.proofs.tree.+copy.Given as goal

abbrev pub invariant-loop-tree : goal.invariant-loop-tree
invariant-loop-tree l = record {
  many : length l.copies.items ≡ l.tree-index;
  same : (m : Mark) (q : List ℕ) → has_mark l.copies.items m q ≡ has_mark (take l.tree-index l.trees) m q;
}
