use Rattle.std.proofs.Common.{◌≡◌, ◌||◌, ℕ, Bool, true, false, take, get_or, refl, sym, ◌∙◌, ap}
use Rattle.herm_model.specs.Lists.{any_pass}
use Rattle.herm_facts.specs.NumberSets.{has_number}
use Rattle.herm_check.specs.Lists.{at_has}
use Rattle.herm_check.proofs.ListedFacts.{any-next}
use Rattle.herm_check.proofs.set_behind.join_lists.Goals as goal

assoc : (a b c : Bool) → ((a || b) || c) ≡ (a || (b || c))
assoc true b c = refl
assoc false b c = refl

pub loop-list-preserved : goal.loop-list-preserved
loop-list-preserved c n =
    let lists = c.args.lists.now in
    let i = c.loop-list.list-index in
    let test = λ (m : ℕ). at_has c.args.made.now m n in
    let before = has_number c.args.held.now n in
    c.in_ok-join_list.ensures n
    ∙ (ap (λ b. b || test (get_or lists i 0)) (c.loop-list.invariant n)
    ∙ (assoc before (any_pass test (take i lists)) (test (get_or lists i 0)) ∙ ap (λ b. before || b) (sym (any-next test lists i 0 c.loop-list-test.true))))
