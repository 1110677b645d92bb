use Rattle.std.proofs.Common.{◌≡◌, ◌++◌, List, map}
use Rattle.herm_model.specs.Paths.{Fact}
use Rattle.herm_model.specs.Facts.{without_repeats}
use Rattle.herm_types.specs.View.{fact_view}
use Rattle.herm_effects.proofs.few.push_each_once.Given as goal

abbrev pub invariant-loop-fact : goal.invariant-loop-fact
invariant-loop-fact l = (fs : List Fact) → map fact_view l.fn.out.items ≡ without_repeats fs → map fact_view l.out.items ≡ without_repeats (fs ++ map fact_view l.yielded)
