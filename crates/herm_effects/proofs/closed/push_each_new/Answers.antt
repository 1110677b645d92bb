use Rattle.std.proofs.Common.{◌++◌, map, subst, sym, ap, ◌∙◌, append_assoc}
use Rattle.std.proofs.lemmas.List.{append-nil, map-append}
use Rattle.herm_types.specs.View.{fact_view}
use Rattle.herm_effects.specs.Pushed.{IsPushed}
use Rattle.herm_effects.proofs.Repeats.{pushed_more}
use Rattle.herm_effects.proofs.closed.push_each_new.Goals as goal

pub loop-fact-init : goal.loop-fact-init
loop-fact-init c = λ fs p. subst (IsPushed _ _) (sym (append-nil fs)) p

pub loop-fact-preserved : goal.loop-fact-preserved
loop-fact-preserved c = λ fs p.
    subst (IsPushed _ _) (append_assoc fs (map fact_view c.loop-fact.yielded) _ ∙ ap (fs ++◌) (sym (map-append fact_view c.loop-fact.yielded _)))
    (pushed_more _ _ _ _ _ _ c.in_ok-push_new.ensures.seen c.in_ok-push_new.ensures.out (c.loop-fact.invariant fs p))
