-- What a flow of the code stands for.
use Rattle.std.specs.Prelude.{map, length}
use Rattle.herm_model.specs.Targets as targets
use Rattle.herm_model.specs.ControlPaths as paths
use Rattle.herm_model.specs.Handlers as handlers
use Rattle.herm_model.specs.laws.FlowLaws.{first_of}
use Rattle.herm_types.specs.View.{path_view, fact_view}
use Rattle.herm_typed.specs.View.{outcome_view}
use Rattle.herm_flow.specs.declared.flow.Target.{Target}
use Rattle.herm_flow.specs.declared.flow.Target.TheVariants.{Point as ToPoint, End, EndBy}
use Rattle.herm_flow.specs.declared.flow.Edge.{Edge}
use Rattle.herm_flow.specs.declared.starts.Catch.{Catch}
use Rattle.herm_flow.specs.declared.flow.Point.{Point}
use Rattle.herm_flow.specs.declared.flow.Flow.{Flow}

abbrev pub target_view : Target → targets.Target
target_view (ToPoint i) = targets.node i
target_view End = targets.end
target_view (EndBy e) = targets.end_by e.0

abbrev pub catch_view : Catch → handlers.Catch
catch_view c = record { exception = c.exception.0; target = target_view c.target }

abbrev pub edge_view : Edge → paths.Edge
edge_view e = record { outcome = outcome_view e.outcome; makes = map fact_view e.change.value.makes.items; kills = map path_view e.change.value.kills.items; target = target_view e.to }

abbrev pub point_view : Point → paths.Point
point_view p = record { number = p.stmt.0; needs = map fact_view p.needs.items; edges = map edge_view p.edges.items }

-- A process begins at its first point.
abbrev pub flow_view : Flow → paths.Flow
flow_view f = record { entry = first_of (length f.points.items); points = map point_view f.points.items }
