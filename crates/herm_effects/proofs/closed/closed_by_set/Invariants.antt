use Rattle.std.proofs.Common.{map, flat_map}
use Rattle.herm_model.specs.Facts.{with_prefixes}
use Rattle.herm_types.specs.View.{fact_view}
use Rattle.herm_typestate.specs.Facts.{has_fact}
use Rattle.herm_judge.specs.View.{table_of, variables_of}
use Rattle.herm_effects.specs.Pushed.{IsPushed}
use Rattle.herm_effects.proofs.closed.closed_by_set.Given as goal

abbrev pub invariant-loop-fact : goal.invariant-loop-fact
invariant-loop-fact l = IsPushed (has_fact l.seen) (map fact_view l.out.items) (flat_map (with_prefixes (table_of l.frame) (variables_of l.frame)) (map fact_view l.yielded))
