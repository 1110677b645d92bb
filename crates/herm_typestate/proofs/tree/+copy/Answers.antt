use Rattle.std.proofs.Common.{◌≡◌, ◌+◌, ◌++◌, ◌∷◌, [], length, take, nat_eq, refl, sym, ◌∙◌, ap, arith}
use Rattle.std.proofs.lemmas.List.{take_more, length-take-le, length_push}
use Rattle.herm_model.specs.Lists.{any_pass}
use Rattle.herm_typestate.specs.Trees.{has_mark}
use Rattle.herm_typestate.proofs.Marks.{same_appended, same_tree}
use Rattle.herm_typestate.proofs.tree.+copy.Goals as goal

pub loop-tree-preserved : goal.loop-tree-preserved
loop-tree-preserved t c =
    let done = c.loop-tree.invariant in
    let more = take_more c.args.trees.now c.loop-tree.tree-index c.tree-item.result c.loop-tree-test.true in
    let many : length c.loop-tree.copies.items ≡ length (take c.loop-tree.tree-index c.args.trees.now) = done.many ∙ sym (length-take-le c.loop-tree.tree-index c.args.trees.now (omega arith)) in
    record {
      many = ap length c.in_ok-push-2.ensures.items ∙ (length_push c.loop-tree.copies.items _ ∙ ap (λ n. n + 1) done.many);
      same = λ m q. ap (λ ts. has_mark ts m q) c.in_ok-push-2.ensures.items
          ∙ (same_appended c.loop-tree.copies.items (take c.loop-tree.tree-index c.args.trees.now) _ c.tree-item.result many done.same
          (same_tree _ c.tree-item.result refl (λ k. ap (any_pass (nat_eq k)) (c.in_ok-known.ensures ∙ c.as_slice.ensures.value))
          (λ m q. c.in_ok-parts.ensures m q ∙ ap (λ ts. has_mark ts m q) c.as_slice-in-loop-tree.ensures.value)) m q
          ∙ ap (λ ts. has_mark ts m q) (ap (λ x. take c.loop-tree.tree-index c.args.trees.now ++ x ∷ []) c.tree-item.is ∙ sym more));
    }

pub loop-tree-preserved-then-is_leaf : goal.loop-tree-preserved-then-is_leaf
loop-tree-preserved-then-is_leaf t c =
    let done = c.loop-tree.invariant in
    let more = take_more c.args.trees.now c.loop-tree.tree-index c.tree-item.result c.loop-tree-test.true in
    let many : length c.loop-tree.copies.items ≡ length (take c.loop-tree.tree-index c.args.trees.now) = done.many ∙ sym (length-take-le c.loop-tree.tree-index c.args.trees.now (omega arith)) in
    record {
      many = ap length c.in_ok-push.ensures.items ∙ (length_push c.loop-tree.copies.items _ ∙ ap (λ n. n + 1) done.many);
      same = λ m q. ap (λ ts. has_mark ts m q) c.in_ok-push.ensures.items
          ∙ (same_appended c.loop-tree.copies.items (take c.loop-tree.tree-index c.args.trees.now) _ c.tree-item.result many done.same
          (same_tree _ c.tree-item.result refl (λ k. ap (any_pass (nat_eq k)) (c.new.ensures.items ∙ sym (c.is_leaf.ensures.known c.if-is_leaf.true)))
          (λ m q. ap (λ ts. has_mark ts m q) (c.new-then-is_leaf.ensures.items ∙ sym (c.is_leaf.ensures.parts c.if-is_leaf.true)))) m q
          ∙ ap (λ ts. has_mark ts m q) (ap (λ x. take c.loop-tree.tree-index c.args.trees.now ++ x ∷ []) c.tree-item.is ∙ sym more));
    }
