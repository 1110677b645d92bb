use Rattle.std.proofs.Common.{◌≡◌, ◌++◌, map, List}
use Rattle.herm_model.specs.Paths as model
use Rattle.herm_model.specs.Facts as facts
use Rattle.herm_types.specs.View.{fact_view}
use Rattle.herm_types.proofs.declared.push_each_new.Given as goal

abbrev pub invariant-loop-fact : goal.invariant-loop-fact
invariant-loop-fact l = (before : List model.Fact) → map fact_view l.fn.list.keys ≡ facts.without_repeats before → map fact_view l.list.keys ≡ facts.without_repeats (before ++ map fact_view l.yielded)
