use Rattle.std.proofs.Common.{map, take}
use Rattle.herm_types.specs.View.{fact_view}
use Rattle.herm_flow.specs.OnwardView.{onward_flow_view, onward_point_view}
use Rattle.herm_check.proofs.Remaining.{AreTaken}
use Rattle.herm_check.proofs.search.follow_listed.Given as goal

abbrev pub invariant-loop-i : goal.invariant-loop-i
invariant-loop-i l = AreTaken (onward_flow_view l.flow) (map fact_view l._facts) l.initial.search.visits.items l.search.visits.items l.search.seen.items l.search.places.items l.visit (onward_point_view l.point).edges (take l.i l.numbers)
