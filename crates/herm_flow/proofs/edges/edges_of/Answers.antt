use Rattle.std.proofs.Common.{List, ◌++◌, map, drop, sym, ap, subst, ◌∙◌, append-nil}
use Rattle.std.proofs.Math.Seq.{drop-cons}
use Rattle.std.proofs.Math.ListN.{drop_of_length-le}
use Rattle.herm_model.specs.Lists.{IsIn}
use Rattle.herm_model.specs.ControlPaths.{Edge}
use Rattle.herm_typed.specs.View.{outcome_view}
use Rattle.herm_judge.specs.View.{table_of, variables_of}
use Rattle.herm_flow.specs.View.{target_view, catch_view, edge_view}
use Rattle.herm_flow.specs.Edges.{exits_from, edge_at}
use Rattle.herm_flow.proofs.KeptEdges.{next_edges}
use Rattle.herm_flow.proofs.edges.edges_of.Goals as goal

pub each-init : goal.each-init
each-init c =
    let none = ap (map edge_view) c.in_ok-edges.ensures.items in
    record {
      of = λ e m. absurd (subst (IsIn e) none m);
      edges = ap (λ (es : List Edge). es ++ map (edge_at (table_of c.args.frame.now) (variables_of c.args.frame.now) c.args.form.now) (exits_from (map outcome_view c.args.outcomes.now) (map target_view c.args.leads.now) (map catch_view c.args.catches.now))) none;
    }

pub each-preserved : goal.each-preserved
each-preserved c =
    let both = next_edges (table_of c.args.frame.now) (variables_of c.args.frame.now) c.args.form.now (map catch_view c.args.catches.now) _ c.args.outcomes.now c.each.outcome-index (map edge_view c.each.edges.items) (map edge_view c.follow.new.edges.items) _ (map target_view (drop c.each.taken c.args.leads.now)) (map target_view (drop c.in_ok-n.n c.args.leads.now))
    (drop-cons c.args.outcomes.now c.each.outcome-index _ c.each-test.true) c.in_ok-n.ensures.edges c.in_ok-n.ensures.left c.each.invariant.of c.each.invariant.edges in
    record { of = both.0; edges = both.1 }

pub returns : goal.returns
returns c =
    let edge = edge_at (table_of c.args.frame.now) (variables_of c.args.frame.now) c.args.form.now in
    record {
      edges = sym (append-nil (map edge_view c.each.edges.items))
          ∙ (ap (λ os. map edge_view c.each.edges.items ++ map edge (exits_from (map outcome_view os) (map target_view (drop c.each.taken c.args.leads.now)) (map catch_view c.args.catches.now))) (sym (drop_of_length-le c.args.outcomes.now c.each-test.false))
          ∙ c.each.invariant.edges);
    }
