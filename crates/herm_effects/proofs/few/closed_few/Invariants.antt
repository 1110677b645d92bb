use Rattle.std.proofs.Common.{◌≡◌, map, flat_map}
use Rattle.herm_model.specs.Facts.{with_prefixes, without_repeats}
use Rattle.herm_types.specs.View.{fact_view}
use Rattle.herm_judge.specs.View.{table_of, variables_of}
use Rattle.herm_effects.proofs.few.closed_few.Given as goal

abbrev pub invariant-loop-fact : goal.invariant-loop-fact
invariant-loop-fact l = map fact_view l.out.items ≡ without_repeats (flat_map (with_prefixes (table_of l.frame) (variables_of l.frame)) (map fact_view l.yielded))
