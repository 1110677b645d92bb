use Rattle.std.proofs.Common.{◌≤◌, ◌<◌, ◌++◌, ◌∷◌, [], length, sym, ap, subst, ◌∙◌}
use Rattle.herm_model.specs.Paths.{init}
use Rattle.herm_model.specs.Facts.{prefixes, without_repeats}
use Rattle.herm_types.specs.View.{fact_view}
use Rattle.herm_judge.specs.View.{table_of, variables_of}
use Rattle.herm_effects.proofs.Repeats.{pushed_once}
use Rattle.herm_effects.proofs.Begun.{one-before}
use Rattle.herm_effects.proofs.few.push_before.Goals as goal

pub returns-in_ok-push_once-in-len1 : goal.returns-in_ok-push_once-in-len1
returns-in_ok-push_once-in-len1 c = λ fs e.
    let T = table_of c.args.frame.now in
    let V = variables_of c.args.frame.now in
    let v = c.in-Init.path.var.0 in
    let parts = c.in-Init.path.parts.items in
    let some : 1 ≤ length parts = subst (λ xs. 1 ≤ length xs) c.as_slice.ensures.value c.in-len1.len_at_least in
    let few : length parts < 2 = subst (λ xs. length xs < 2) c.as_slice.ensures.value c.in-len1.len_below in
    pushed_once _ _ fs _ c.in_ok-push_once-in-len1.ensures e
    ∙ ap (λ gs. without_repeats (fs ++ gs)) (ap (λ p. init (v ∷ p) ∷ []) c.new-parts.ensures.items ∙ (sym (one-before T V v parts some few) ∙ ap (λ x. prefixes T V (fact_view x)) (sym c.in-Init.is)))
