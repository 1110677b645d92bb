use Rattle.std.proofs.Common.{◌≡◌, ◌++◌, map, drop}
use Rattle.herm_typed.specs.View.{outcome_view}
use Rattle.herm_judge.specs.View.{table_of, variables_of}
use Rattle.herm_flow.specs.View.{target_view, catch_view, edge_view}
use Rattle.herm_flow.specs.Edges.{exits_from, edge_at, AreEdgesOf}
use Rattle.herm_flow.proofs.edges.edges_of.Given as goal

-- The edges so far, with those of the outcomes that are left behind them, are those of all.
abbrev pub invariant-each : goal.invariant-each
invariant-each l = record {
  of : AreEdgesOf (table_of l.frame) (variables_of l.frame) l.form (map edge_view l.edges.items);
  edges : map edge_view l.edges.items ++ map (edge_at (table_of l.frame) (variables_of l.frame) l.form) (exits_from (map outcome_view (drop l.outcome-index l.outcomes)) (map target_view (drop l.taken l.leads)) (map catch_view l.catches))
      ≡ map (edge_at (table_of l.frame) (variables_of l.frame) l.form) (exits_from (map outcome_view l.outcomes) (map target_view l.leads) (map catch_view l.catches));
}
