use Rattle.std.proofs.Common.{map}
use Rattle.herm_types.specs.View.{fact_view}
use Rattle.herm_flow.specs.OnwardView.{onward_point_view}
use Rattle.herm_check.proofs.Remaining.{AreLookedAt}
use Rattle.herm_check.proofs.search.rest_of.Given as goal

abbrev pub invariant-loop-number : goal.invariant-loop-number
invariant-loop-number l = AreLookedAt (map fact_view l._facts) l.search.visits.items l.whole.held l.whole.facts (onward_point_view l.point).edges l.number l.edges.items
