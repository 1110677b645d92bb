use Rattle.std.proofs.Common.{◌∷◌, [], subst}
use Rattle.herm_typestate.specs.declared.tree.Tree.{out-Tree}
use Rattle.herm_typestate.specs.Trees.{has_mark, IsWithin, IsBeyond}
use Rattle.herm_typestate.proofs.Within.{parts_within, within_next, all_within, tree_within, beyond_at, beyond_below}
use Rattle.herm_typestate.proofs.tree.+is_below.Goals as goal

pub returns-then-not-marks_below : goal.returns-then-not-marks_below
returns-then-not-marks_below t c =
    let e = c.if-not-marks_below.ensures in
    beyond_at c.args.trees.now c.args.others.now c.loop-i.i c.index-trees-i.result e.0 [] c.loop-i-test.true c.index-trees-i.is e.1 e.2

pub returns-then-not-is_below : goal.returns-then-not-is_below
returns-then-not-is_below t c =
    beyond_below c.args.trees.now c.args.others.now c.parts_at.result.now c.loop-i.i c.index-trees-i.result c.loop-i-test.true c.index-trees-i.is
    (subst (λ ts. IsBeyond (has_mark ts) (has_mark c.parts_at.result.now)) c.as_slice.ensures.value c.if-not-is_below.ensures) (λ m j q. c.parts_at.ensures m j q)

pub loop-i-preserved : goal.loop-i-preserved
loop-i-preserved t c =
    let parts : IsWithin (has_mark (out-Tree c.index-trees-i.result).parts.items) (λ m q. has_mark c.args.others.now m (c.loop-i.i ∷ q)) =
    parts_within _ c.args.others.now c.parts_at.result.now c.loop-i.i (subst (λ ts. IsWithin (has_mark ts) (has_mark c.parts_at.result.now)) c.as_slice.ensures.value c.if-not-is_below.ensures) (λ m j q. c.parts_at.ensures m j q) in
    within_next c.args.trees.now c.args.others.now c.loop-i.i c.index-trees-i.result c.loop-i.invariant c.loop-i-test.true c.index-trees-i.is
    (tree_within c.index-trees-i.result (λ m q. has_mark c.args.others.now m (c.loop-i.i ∷ q)) (λ m. c.if-not-marks_below.ensures m) parts)

pub returns : goal.returns
returns t c = all_within c.args.trees.now c.args.others.now c.loop-i.i c.loop-i-test.false c.loop-i.invariant
