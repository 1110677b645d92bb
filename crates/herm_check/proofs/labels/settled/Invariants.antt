use Rattle.herm_flow.specs.OnwardView.{onward_flow_view}
use Rattle.herm_check.specs.Weights.{weight}
use Rattle.herm_check.specs.Labelled.{all_facts, AreLabels}
use Rattle.herm_check.proofs.labels.settled.Given as goal

abbrev pub invariant-loop-i : goal.invariant-loop-i
invariant-loop-i l = AreLabels l.numbering.facts (onward_flow_view l.flow) l.labels.items

abbrev pub decreases-loop-i : goal.decreases-loop-i
decreases-loop-i l = weight l.numbering.facts (all_facts l.flow) l.labels.items
