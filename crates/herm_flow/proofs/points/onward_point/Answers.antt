use Rattle.std.proofs.Common.{map, subst}
use Rattle.herm_typed.specs.View.{outcome_view}
use Rattle.herm_judge.specs.View.{table_of, variables_of}
use Rattle.herm_flow.specs.View.{target_view, catch_view}
use Rattle.herm_flow.specs.Edges.{exits_from, edge_at}
use Rattle.herm_flow.specs.Onward.{AreOnwardEdges}
use Rattle.herm_flow.specs.OnwardView.{onward_point_view}
use Rattle.herm_flow.proofs.points.onward_point.Goals as goal

pub returns : goal.returns
returns c =
    let q = onward_point_view c.in_ok-point.point in
    let edge = edge_at (table_of c.args.frame.now) (variables_of c.args.frame.now) c.args.s.now.form in
    record {
      point = record {
        number = c.in_ok-point.ensures.number;
        needs = c.in_ok-point.ensures.needs;
        edges = c.in_ok-found.ensures.edges (map target_view c.args.leads.now) q.edges
            (subst (λ os. AreOnwardEdges q.edges (map edge (exits_from (map outcome_view os) (map target_view c.args.leads.now) (map catch_view c.args.catches.now)))) c.as_slice.ensures.value c.in_ok-point.ensures.edges);
      };
    }
