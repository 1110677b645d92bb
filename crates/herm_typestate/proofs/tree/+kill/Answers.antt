use Rattle.std.proofs.Common.{◌≡◌, ◌<◌, ◌∷◌, [], slice_set, length, not, ◌&&◌, refl, sym, subst, arith}
use Rattle.herm_model.specs.Paths.{is_at_or_below}
use Rattle.herm_typestate.specs.declared.tree.Tree.{out-Tree, roll-Tree}
use Rattle.herm_typestate.specs.Trees.{has_mark}
use Rattle.herm_typestate.proofs.Marks.{no_rest, killed, killed_below}
use Rattle.herm_typestate.proofs.tree.+kill.Goals as goal

pub returns-in-None : goal.returns-in-None
returns-in-None t c m q =
    let within : c.args.at < length c.args.trees.now.items = omega arith in
    subst (λ r. has_mark (slice_set c.args.trees.now.items c.args.at c.forget.new.tree) m q ≡ (not (is_at_or_below (c.args.at ∷ r) q) && has_mark c.args.trees.now.items m q)) (sym (no_rest c.args.rest.now c.in-None.ensures.cases))
    (killed c.args.trees.now.items c.args.at [] c.index_mut-tree.result.now c.forget.new.tree within c.index_mut-tree.ensures.value (λ m q. c.forget.ensures m q) m q)

pub returns-in-Some : goal.returns-in-Some
returns-in-Some t c m q =
    let within : c.args.at < length c.args.trees.now.items = omega arith in
    subst (λ r. has_mark (slice_set c.args.trees.now.items c.args.at (roll-Tree (record { here = (out-Tree c.index_mut-tree.result.now).here; known = (out-Tree c.index_mut-tree.result.now).known; parts = c.kill.new.trees }))) m q ≡ (not (is_at_or_below (c.args.at ∷ r) q) && has_mark c.args.trees.now.items m q)) (sym c.in-Some.ensures.cases.0)
    (killed c.args.trees.now.items c.args.at (c.in-Some.next.now ∷ c.in-Some.rest.now) c.index_mut-tree.result.now _ within c.index_mut-tree.ensures.value
    (killed_below _ c.index_mut-tree.result.now c.in-Some.next.now c.in-Some.rest.now refl refl (λ m q. c.kill.ensures m q)) m q)
