use Rattle.std.proofs.Common.{map, flat_map, sym, ap, ◌∙◌}
use Rattle.std.proofs.lemmas.List.{map-append}
use Rattle.herm_model.specs.Facts.{with_prefixes, without_repeats}
use Rattle.herm_types.specs.View.{fact_view}
use Rattle.herm_judge.specs.View.{table_of, variables_of}
use Rattle.herm_effects.proofs.few.closed_few.Goals as goal

pub loop-fact-preserved : goal.loop-fact-preserved
loop-fact-preserved c =
    c.in_ok-push_closed.ensures (map fact_view c.loop-fact.yielded) c.loop-fact.invariant
    ∙ ap (λ fs. without_repeats (flat_map (with_prefixes (table_of c.args.frame.now) (variables_of c.args.frame.now)) fs)) (sym (map-append fact_view c.loop-fact.yielded _))
