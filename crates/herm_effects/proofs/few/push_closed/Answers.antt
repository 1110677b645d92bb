use Rattle.std.proofs.Common.{◌∷◌, [], flat_map, map, refl, sym, ap, ◌∙◌, append_assoc}
use Rattle.herm_model.specs.Lists.{any_pass}
use Rattle.herm_model.specs.Paths.{same_fact}
use Rattle.herm_model.specs.Facts.{prefixes, with_prefixes, without_repeats}
use Rattle.herm_types.specs.View.{fact_view}
use Rattle.herm_judge.specs.View.{table_of, variables_of}
use Rattle.herm_effects.proofs.Repeats.{pushed_once}
use Rattle.herm_effects.proofs.Begun.{held_is_pushed, closing_more}
use Rattle.herm_effects.proofs.few.push_closed.Goals as goal

pub returns-then-is_among : goal.returns-then-is_among
returns-then-is_among c = λ fs e.
    let T = table_of c.args.frame.now in
    let V = variables_of c.args.frame.now in
    let out = map fact_view c.args.out.now.items in
    let found = sym c.is_among.ensures ∙ c.if-is_among.true in
    (held_is_pushed T V (λ f. any_pass (λ g. same_fact g f) out) out fs (fact_view c.args.fact) (ap (λ xs. any_pass (λ g. same_fact g (fact_view c.args.fact)) (map fact_view xs)) (sym c.as_slice.ensures.value) ∙ found) (record { tells = λ f. refl; once = e })).once
    ∙ ap without_repeats (closing_more T V fs (fact_view c.args.fact))

pub returns : goal.returns
returns c = λ fs e.
    let T = table_of c.args.frame.now in
    let V = variables_of c.args.frame.now in
    pushed_once _ _ _ (fact_view c.args.fact) c.in_ok-push_once.ensures (c.in_ok-push_before.ensures (flat_map (with_prefixes T V) fs) e)
    ∙ ap without_repeats (append_assoc (flat_map (with_prefixes T V) fs) (prefixes T V (fact_view c.args.fact)) (fact_view c.args.fact ∷ []) ∙ closing_more T V fs (fact_view c.args.fact))
