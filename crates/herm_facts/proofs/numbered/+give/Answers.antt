use Rattle.std.proofs.Common.{◌≡◌, ◌∷◌, [], slice_set, refl, sym, ◌∙◌, ap, subst}
use Rattle.herm_typestate.proofs.Marks.{no_rest, on_err}
use Rattle.herm_facts.specs.declared.numbered.Numbered.{out-Numbered, roll-Numbered}
use Rattle.herm_facts.specs.Numbers.{numbers_at, given}
use Rattle.herm_facts.proofs.Giving.{gave, gave_below, same_changed, same_tree}
use Rattle.herm_facts.proofs.numbered.+give.Goals as goal

pub returns-in_err-give-in-Some-clause-err : goal.returns-in_err-give-in-Some-clause-err
returns-in_err-give-in-Some-clause-err t c = on_err c.from_residual-in_err-give-in-Some.result (λ q.
    same_changed c.reach.new.trees.items c.args.at c.index_mut-tree.result.now _ c.in_ok-reach.ensures.reached c.index_mut-tree.ensures.value
    (same_tree _ c.index_mut-tree.result.now refl refl (λ q. c.in_err-give-in-Some.ensures.err q)) q
    ∙ c.reach.ensures.kept q)

pub returns-in_err-give_own-in-None-clause-err : goal.returns-in_err-give_own-in-None-clause-err
returns-in_err-give_own-in-None-clause-err t c = on_err c.from_residual-in_err-give_own-in-None.result (λ q.
    same_changed c.reach.new.trees.items c.args.at c.index_mut-tree.result.now c.give_own.new.tree c.in_ok-reach.ensures.reached c.index_mut-tree.ensures.value (λ q. c.in_err-give_own-in-None.ensures.err q) q
    ∙ c.reach.ensures.kept q)

pub returns-in_ok-give_own-in-None-clause-ok : goal.returns-in_ok-give_own-in-None-clause-ok
returns-in_ok-give_own-in-None-clause-ok t c q =
    subst (λ r. numbers_at (slice_set c.reach.new.trees.items c.args.at c.give_own.new.tree) q ≡ given (c.args.at ∷ r) c.args.component c.args.number q (numbers_at c.args.trees.now.items q)) (sym (no_rest c.args.rest.now c.in-None.ensures.cases))
    (gave c.reach.new.trees.items c.args.at [] c.args.component c.args.number c.index_mut-tree.result.now c.give_own.new.tree c.in_ok-reach.ensures.reached c.index_mut-tree.ensures.value (λ q. c.in_ok-give_own-in-None.ensures.ok q) q
    ∙ ap (given (c.args.at ∷ []) c.args.component c.args.number q) (c.reach.ensures.kept q))

pub returns-in_ok-give-in-Some-clause-ok : goal.returns-in_ok-give-in-Some-clause-ok
returns-in_ok-give-in-Some-clause-ok t c q =
    let rest = c.in-Some.next.now ∷ c.in-Some.rest.now in
    subst (λ r. numbers_at (slice_set c.reach.new.trees.items c.args.at (roll-Numbered (record { here = (out-Numbered c.index_mut-tree.result.now).here; known = (out-Numbered c.index_mut-tree.result.now).known; parts = c.give.new.trees }))) q ≡ given (c.args.at ∷ r) c.args.component c.args.number q (numbers_at c.args.trees.now.items q)) (sym c.in-Some.ensures.cases.0)
    (gave c.reach.new.trees.items c.args.at rest c.args.component c.args.number c.index_mut-tree.result.now _ c.in_ok-reach.ensures.reached c.index_mut-tree.ensures.value
    (gave_below _ c.index_mut-tree.result.now c.in-Some.next.now c.in-Some.rest.now c.args.component c.args.number refl refl (λ q. c.in_ok-give-in-Some.ensures.ok q)) q
    ∙ ap (given (c.args.at ∷ rest) c.args.component c.args.number q) (c.reach.ensures.kept q))
