use Rattle.std.proofs.Common.{map, flat_map, ◌∷◌, [], subst, sym, ◌∙◌, append_assoc}
use Rattle.herm_model.specs.Facts.{prefixes, with_prefixes}
use Rattle.herm_types.specs.View.{fact_view}
use Rattle.herm_typestate.specs.Facts.{has_fact}
use Rattle.herm_judge.specs.View.{table_of, variables_of}
use Rattle.herm_effects.specs.Pushed.{IsPushed}
use Rattle.herm_effects.proofs.Repeats.{pushed_more}
use Rattle.herm_effects.proofs.Begun.{held_is_pushed, closing_more}
use Rattle.herm_effects.proofs.closed.push_closed.Goals as goal

pub returns-then-holds : goal.returns-then-holds
returns-then-holds c = λ fs p.
    subst (IsPushed (has_fact c.args.seen.now) (map fact_view c.args.out.now.items)) (closing_more (table_of c.args.frame.now) (variables_of c.args.frame.now) fs (fact_view c.args.fact))
    (held_is_pushed (table_of c.args.frame.now) (variables_of c.args.frame.now) (has_fact c.args.seen.now) (map fact_view c.args.out.now.items) fs (fact_view c.args.fact) (sym c.holds.ensures ∙ c.if-holds.true) p)

pub returns : goal.returns
returns c = λ fs p.
    let T = table_of c.args.frame.now in
    let V = variables_of c.args.frame.now in
    subst (IsPushed (has_fact c.push_new.new.seen) (map fact_view c.push_new.new.out.items))
    (append_assoc (flat_map (with_prefixes T V) fs) (prefixes T V (fact_view c.args.fact)) (fact_view c.args.fact ∷ []) ∙ closing_more T V fs (fact_view c.args.fact))
    (pushed_more _ _ _ _ _ _ c.in_ok-push_new.ensures.seen c.in_ok-push_new.ensures.out (c.in_ok-push_before.ensures fs p))
