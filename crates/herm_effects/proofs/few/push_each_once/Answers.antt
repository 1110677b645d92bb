use Rattle.std.proofs.Common.{◌++◌, map, sym, ap, ◌∙◌, append_assoc}
use Rattle.std.proofs.lemmas.List.{append-nil, map-append}
use Rattle.herm_model.specs.Facts.{without_repeats}
use Rattle.herm_types.specs.View.{fact_view}
use Rattle.herm_effects.proofs.Repeats.{pushed_once}
use Rattle.herm_effects.proofs.few.push_each_once.Goals as goal

pub loop-fact-init : goal.loop-fact-init
loop-fact-init c = λ fs e. e ∙ ap without_repeats (sym (append-nil fs))

pub loop-fact-preserved : goal.loop-fact-preserved
loop-fact-preserved c = λ fs e.
    pushed_once _ _ (fs ++ map fact_view c.loop-fact.yielded) _ c.in_ok-push_once.ensures (c.loop-fact.invariant fs e)
    ∙ ap without_repeats (append_assoc fs (map fact_view c.loop-fact.yielded) _ ∙ ap (fs ++◌) (sym (map-append fact_view c.loop-fact.yielded _)))
