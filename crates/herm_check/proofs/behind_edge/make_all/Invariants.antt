use Rattle.std.proofs.Common.{◌≡◌, ◌||◌, map, take}
use Rattle.herm_model.specs.Lists.{any_pass}
use Rattle.herm_model.specs.Paths.{Fact, same_fact}
use Rattle.herm_types.specs.View.{fact_view}
use Rattle.herm_typestate.specs.Facts.{has_fact}
use Rattle.herm_check.proofs.behind_edge.make_all.Given as goal

abbrev pub invariant-loop-fact : goal.invariant-loop-fact
invariant-loop-fact l = (f : Fact) → has_fact l.state f ≡ (any_pass (same_fact f) (map fact_view (take l.fact-index l.makes)) || has_fact l.initial.state f)
