use Rattle.std.proofs.Common.{◌++◌, List, map}
use Rattle.herm_model.specs.Paths.{Fact}
use Rattle.herm_types.specs.View.{fact_view}
use Rattle.herm_defs.specs.Distinct.{AreDistinct}
use Rattle.herm_defs.proofs.distinct.DistinctFacts.append.Given as goal

abbrev pub invariant-loop-fact : goal.invariant-loop-fact
invariant-loop-fact l = (fs : List Fact) → AreDistinct fs l.fn.self → AreDistinct (fs ++ map fact_view l.yielded) l.self
