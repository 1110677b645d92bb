use Rattle.std.proofs.Common.{◌*◌, ◌-◌, map, length}
use Rattle.herm_types.specs.View.{fact_view}
use Rattle.herm_flow.specs.OnwardView.{onward_flow_view}
use Rattle.herm_check.specs.Searched.{IsSearching}
use Rattle.herm_check.specs.Remaining.{AreRests}
use Rattle.herm_check.proofs.search.complete.Given as goal

abbrev pub invariant-loop-next : goal.invariant-loop-next
invariant-loop-next l = record {
  search : IsSearching (onward_flow_view l.flow) (map fact_view l.facts) l.search l.next;
  rests : AreRests (onward_flow_view l.flow) (map fact_view l.facts) l.search.visits.items l.rests.items;
}

abbrev pub decreases-loop-next : goal.decreases-loop-next
decreases-loop-next l = 64 * (2 * length l.flow.points.items) - l.next
