use Rattle.std.proofs.Common.{◌≤◌, map, take}
use Rattle.herm_flow.specs.OnwardView.{onward_flow_view}
use Rattle.herm_check.specs.View.{edge_in}
use Rattle.herm_check.specs.Weights.{weight}
use Rattle.herm_check.specs.Labelled.{all_facts, IsLeft}
use Rattle.herm_check.proofs.labels.follow_all.Given as goal

abbrev pub invariant-loop-k : goal.invariant-loop-k
invariant-loop-k l = record {
  left : IsLeft l.numbering.facts (onward_flow_view l.flow) l.i (map (edge_in l.point) (take l.k l.point.edges.items)) l.labels.items;
  less : weight l.numbering.facts (all_facts l.flow) l.labels.items ≤ weight l.numbering.facts (all_facts l.flow) l.initial.labels.items;
}
