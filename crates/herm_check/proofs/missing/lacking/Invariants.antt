use Rattle.std.proofs.Common.{map, flat_map, take}
use Rattle.std.specs.declared.vec.Vec.{Vec}
use Rattle.std.specs.declared.alloc.Global.{Global}
use Rattle.herm_model.specs.Lists.{numbered}
use Rattle.herm_model.specs.MissingFacts.{demands_at}
use Rattle.herm_types.specs.declared.fact.Fact.{Fact}
use Rattle.herm_types.specs.View.{fact_view}
use Rattle.herm_flow.specs.OnwardView.{onward_point_view, onward_flow_view}
use Rattle.herm_facts.specs.FactNumbers.{AreFacts}
use Rattle.herm_check.specs.Missing.{AreNoted, AreMissing, missing_of}
use Rattle.herm_check.specs.Alike.{AreSearchedBy}
use Rattle.herm_check.proofs.missing.lacking.Given as goal

abbrev pub invariant-loop-i : goal.invariant-loop-i
invariant-loop-i l = record {
  noted : AreNoted (onward_flow_view l.flow) l.labels l.lost.numbers;
  searched : AreSearchedBy (onward_flow_view l.flow) l.lost.numbers l.lost.by.items l.lost.searches.items;
  missing : (facts : Vec Fact Global) → AreFacts l.lost.numbers (map fact_view facts.items) → AreMissing (onward_flow_view l.flow) (flat_map demands_at (numbered 0 (map onward_point_view (take l.i l.flow.points.items)))) (missing_of l.lost facts l.facts);
}
