use Rattle.std.proofs.Common.{◌++◌, List, map}
use Rattle.herm_model.specs.Paths.{Fact}
use Rattle.herm_types.specs.View.{fact_view}
use Rattle.herm_typestate.specs.Facts.{has_fact}
use Rattle.herm_effects.specs.Pushed.{IsPushed}
use Rattle.herm_effects.proofs.closed.push_each_new.Given as goal

abbrev pub invariant-loop-fact : goal.invariant-loop-fact
invariant-loop-fact l = (fs : List Fact) → IsPushed (has_fact l.fn.seen) (map fact_view l.fn.out.items) fs → IsPushed (has_fact l.seen) (map fact_view l.out.items) (fs ++ map fact_view l.yielded)
