use Rattle.std.proofs.Common.{◌≡◌, ◌∷◌, [], slice_set, ◌||◌, refl, sym, ◌∙◌, ap, subst, arith}
use Rattle.herm_typestate.specs.declared.tree.Tree.{out-Tree, roll-Tree}
use Rattle.herm_typestate.specs.Trees.{has_mark, is_mark_of}
use Rattle.herm_typestate.proofs.Marks.{no_rest, made, made_below, same_changed, same_tree, on_err}
use Rattle.herm_typestate.proofs.FactSets.{first_step}
use Rattle.herm_typestate.proofs.tree.+make.Goals as goal

pub returns-in_err-make-in-Some-clause-err : goal.returns-in_err-make-in-Some-clause-err
returns-in_err-make-in-Some-clause-err t c = on_err c.from_residual-in_err-make-in-Some.result (λ m q.
    same_changed c.reach.new.trees.items c.args.at c.index_mut-tree.result.now _ c.in_ok-reach.ensures.reached c.index_mut-tree.ensures.value
    (same_tree _ c.index_mut-tree.result.now refl (λ k. refl) (λ m q. c.in_err-make-in-Some.ensures.err m q)) m q
    ∙ c.reach.ensures.kept m q)

pub returns-in_ok-set-in-None-clause-ok : goal.returns-in_ok-set-in-None-clause-ok
returns-in_ok-set-in-None-clause-ok t c m q =
    subst (λ r. has_mark (slice_set c.reach.new.trees.items c.args.at c.set.new.tree) m q ≡ (is_mark_of (c.args.at ∷ r) c.args.mark m q || has_mark c.args.trees.now.items m q)) (sym (no_rest c.args.rest.now c.in-None.ensures.cases))
    (made c.reach.new.trees.items c.args.at [] c.args.mark c.index_mut-tree.result.now c.set.new.tree c.in_ok-reach.ensures.reached c.index_mut-tree.ensures.value (λ m q. c.in_ok-set-in-None.ensures.ok m q) m q
    ∙ ap (λ b. is_mark_of (c.args.at ∷ []) c.args.mark m q || b) (c.reach.ensures.kept m q))

pub returns-in_ok-make-in-Some-clause-ok : goal.returns-in_ok-make-in-Some-clause-ok
returns-in_ok-make-in-Some-clause-ok t c m q =
    let rest = c.in-Some.next.now ∷ c.in-Some.rest.now in
    subst (λ r. has_mark (slice_set c.reach.new.trees.items c.args.at (roll-Tree (record { here = (out-Tree c.index_mut-tree.result.now).here; known = (out-Tree c.index_mut-tree.result.now).known; parts = c.make.new.trees }))) m q ≡ (is_mark_of (c.args.at ∷ r) c.args.mark m q || has_mark c.args.trees.now.items m q)) (sym c.in-Some.ensures.cases.0)
    (made c.reach.new.trees.items c.args.at rest c.args.mark c.index_mut-tree.result.now _ c.in_ok-reach.ensures.reached c.index_mut-tree.ensures.value
    (made_below _ c.index_mut-tree.result.now c.in-Some.next.now c.in-Some.rest.now c.args.mark refl refl (λ m q. c.in_ok-make-in-Some.ensures.ok m q)) m q
    ∙ ap (λ b. is_mark_of (c.args.at ∷ rest) c.args.mark m q || b) (c.reach.ensures.kept m q))

pub returns-in_ok-make-in-Some-clause-steps : goal.returns-in_ok-make-in-Some-clause-steps
returns-in_ok-make-in-Some-clause-steps t c = first_step c.args.at c.args.rest.now (omega arith) (λ k. c.type_inv.rest k)

pub returns-in_err-reach-clause-steps : goal.returns-in_err-reach-clause-steps
returns-in_err-reach-clause-steps t c = first_step c.args.at c.args.rest.now (omega arith) (λ k. c.type_inv.rest k)

pub returns-in_err-set-in-None-clause-err : goal.returns-in_err-set-in-None-clause-err
returns-in_err-set-in-None-clause-err t c = on_err c.from_residual-in_err-set-in-None.result (λ m q.
    same_changed c.reach.new.trees.items c.args.at c.index_mut-tree.result.now c.set.new.tree c.in_ok-reach.ensures.reached c.index_mut-tree.ensures.value (λ m q. c.in_err-set-in-None.ensures.err m q) m q
    ∙ c.reach.ensures.kept m q)
