-- What a flow stands for whose edges name lists of their points.
use Rattle.std.specs.Prelude.{ℕ, List, map, flat_map, length, slice_get, Vec}
use Rattle.std.specs.Global.{Global}
use Rattle.herm_model.specs.Lists.{list_of}
use Rattle.herm_model.specs.Paths as model
use Rattle.herm_model.specs.Targets.{node}
use Rattle.herm_model.specs.ControlPaths as paths
use Rattle.herm_model.specs.laws.FlowLaws.{first_of}
use Rattle.herm_types.specs.declared.fact.Path.{Path}
use Rattle.herm_types.specs.declared.fact.Fact.{Fact}
use Rattle.herm_types.specs.View.{path_view, fact_view}
use Rattle.herm_typed.specs.View.{outcome_view}
use Rattle.herm_flow.specs.declared.onward.OnwardEdge.{OnwardEdge}
use Rattle.herm_flow.specs.declared.onward.OnwardPoint.{OnwardPoint}
use Rattle.herm_flow.specs.declared.onward.OnwardFlow.{OnwardFlow}

-- the facts of the list with this number, none where there is no such list
abbrev pub facts_in : List (Vec Fact Global) → ℕ → List model.Fact
facts_in made number = list_of (λ v. map fact_view v.items) (slice_get made number)

-- the paths of the list with this number, none where there is no such list
abbrev pub paths_in : List (Vec Path Global) → ℕ → List model.Path
paths_in gone number = list_of (λ v. map path_view v.items) (slice_get gone number)

-- An edge by the lists of its point.
abbrev pub onward_edge_view : List (Vec Fact Global) → List (Vec Path Global) → OnwardEdge → paths.Edge
onward_edge_view made gone e = record {
  outcome = outcome_view e.outcome;
  makes = flat_map (facts_in made) e.makes.items;
  kills = paths_in gone e.kills;
  target = node e.to;
}

abbrev pub onward_point_view : OnwardPoint → paths.Point
onward_point_view p = record { number = p.stmt.0; needs = map fact_view p.needs.items; edges = map (onward_edge_view p.made.items p.gone.items) p.edges.items }

-- A process begins at its first point.
abbrev pub onward_flow_view : OnwardFlow → paths.Flow
onward_flow_view f = record { entry = first_of (length f.points.items); points = map onward_point_view f.points.items }
