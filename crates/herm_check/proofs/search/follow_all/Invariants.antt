use Rattle.std.proofs.Common.{map, take}
use Rattle.herm_types.specs.View.{fact_view}
use Rattle.herm_flow.specs.OnwardView.{onward_flow_view}
use Rattle.herm_check.specs.View.{edge_in}
use Rattle.herm_check.proofs.Following.{IsFollowing}
use Rattle.herm_check.proofs.search.follow_all.Given as goal

abbrev pub invariant-loop-number : goal.invariant-loop-number
invariant-loop-number l = IsFollowing (onward_flow_view l.flow) (map fact_view l._facts) l.initial.search.visits.items l.search.visits.items l.search.seen.items l.search.places.items l.visit (map (edge_in l.point) (take l.number l.point.edges.items))
