use Rattle.std.proofs.Common.{◌≡◌, ◌∷◌, ◌++◌, ◌^◌, ◌≤◌, length, [], ◌-◌, take, vec_len, map, sym, ◌∙◌, ap, ap₂, subst, arith}
use Rattle.std.proofs.lemmas.List.{length_push, take_at}
use Rattle.herm_types.specs.View.{path_view}
use Rattle.herm_typestate.specs.declared.tree.Tree.{out-Tree}
use Rattle.herm_typestate.specs.Small.{AreSmall}
use Rattle.herm_typestate.specs.Topmost.{AddTopmost, is_left, is_left_at}
use Rattle.herm_typestate.proofs.Meets.{past}
use Rattle.herm_typestate.proofs.Topmost.{add-next, add-same, add-root}
use Rattle.herm_typestate.proofs.Left.{small_parts, none_behind_small, left_up_to, left_at, left_below}
use Rattle.herm_typestate.proofs.excess.+excess.Goals as goal

pub excess_of-returns-then-is_gone-clause-out : goal.excess_of-returns-then-is_gone-clause-out
excess_of-returns-then-is_gone-clause-out t c small =
    add-root (is_left_at c.args.tree.now c.args.low.now c.args.i) c.args.at.now.items (map path_view c.args.out.now.items) (map path_view c.push_path.new.out.items) (sym c.is_gone.ensures ∙ c.if-is_gone.true)
    (c.in_ok-push_path.ensures ∙ ap (λ p. map path_view c.args.out.now.items ++ p ∷ []) c.as_slice.ensures.value)

pub excess_of-returns-clause-out : goal.excess_of-returns-clause-out
excess_of-returns-clause-out t c small =
    add-same (is_left (out-Tree c.args.tree.now).parts.items c.parts_at.result.now) (is_left_at c.args.tree.now c.args.low.now c.args.i) c.args.at.now.items (map path_view c.args.out.now.items) (map path_view c.excess.new.out.items)
    (left_below c.args.tree.now c.args.low.now c.parts_at.result.now c.args.i (sym c.is_gone.ensures ∙ c.if-is_gone.false) (λ m j q. c.parts_at.ensures m j q))
    (subst (λ ts. AddTopmost (is_left ts c.parts_at.result.now) c.args.at.now.items (map path_view c.args.out.now.items) (map path_view c.excess.new.out.items)) c.as_slice-2.ensures.value (c.in_ok-excess.ensures.out (subst AreSmall (sym c.as_slice-2.ensures.value) small)))

pub excess-returns-in_default-clause-out : goal.excess-returns-in_default-clause-out
excess-returns-in_default-clause-out t c small =
    let far : 2 ^ 32 ≤ c.loop-i.i = omega (arith, c.in_default.ensures) in
    left_up_to c.args.trees.now c.args.low.now c.loop-i.i c.args.at.now.items (map path_view c.args.out.now.items) (map path_view c.loop-i.out.items) (none_behind_small c.args.trees.now c.loop-i.i small far) (c.loop-i.invariant.out small)

pub excess-loop-i-preserved : goal.excess-loop-i-preserved
excess-loop-i-preserved t c =
    let same = c.in_ok-excess_of.ensures.at ∙ c.in_ok-push.ensures.items in
    let longer = ap length same ∙ length_push c.loop-i.at.items c.in-Ok.step in
    let step : c.push.new.self.items ≡ c.args.at.now.items ++ c.loop-i.i ∷ [] = c.in_ok-push.ensures.items ∙ ap₂ (λ p n. p ++ n ∷ []) c.loop-i.invariant.at c.in-Ok.ensures.1 in
    record {
      at = c.pop.ensures.rest ∙ (ap (take (vec_len c.excess_of.new.at - 1)) same ∙ (take_at c.loop-i.at.items (c.in-Ok.step ∷ []) (vec_len c.excess_of.new.at - 1) (omega (arith, longer, c.excess_of.new.at.ok)) ∙ c.loop-i.invariant.at));
      out = λ small. add-next (is_left c.args.trees.now c.args.low.now) c.loop-i.i c.args.at.now.items (map path_view c.args.out.now.items) (map path_view c.loop-i.out.items) (map path_view c.excess_of.new.out.items) (c.loop-i.invariant.out small)
          (subst (λ p. AddTopmost (λ q. is_left c.args.trees.now c.args.low.now (c.loop-i.i ∷ q)) p (map path_view c.loop-i.out.items) (map path_view c.excess_of.new.out.items)) step
          (add-same (is_left_at c.index-trees-i.result c.args.low.now c.loop-i.i) (λ q. is_left c.args.trees.now c.args.low.now (c.loop-i.i ∷ q)) c.push.new.self.items (map path_view c.loop-i.out.items) (map path_view c.excess_of.new.out.items)
          (left_at c.args.trees.now c.args.low.now c.loop-i.i c.index-trees-i.result c.loop-i-test.true c.index-trees-i.is) (c.in_ok-excess_of.ensures.out (small_parts c.args.trees.now c.loop-i.i c.index-trees-i.result small c.loop-i-test.true c.index-trees-i.is))));
    }

pub excess-returns-clause-out : goal.excess-returns-clause-out
excess-returns-clause-out t c small =
    left_up_to c.args.trees.now c.args.low.now c.loop-i.i c.args.at.now.items (map path_view c.args.out.now.items) (map path_view c.loop-i.out.items) (λ m j q h. past c.args.trees.now m j q (let far : length c.args.trees.now ≤ c.loop-i.i = c.loop-i-test.false in omega arith)) (c.loop-i.invariant.out small)
