-- What the types of one pass over the nodes stand for.
use Rattle.std.specs.Prelude.{List, [], ◌∷◌, map, Vec}
use Rattle.std.specs.Global.{Global}
use Rattle.herm_model.specs.ControlPaths as model
use Rattle.herm_model.specs.Paths as paths
use Rattle.herm_types.specs.declared.fact.Path.{Path}
use Rattle.herm_types.specs.View.{path_view, fact_view}
use Rattle.herm_typed.specs.declared.statements.TypedForm.{TypedForm}
use Rattle.herm_typed.specs.View.{outcome_view}
use Rattle.herm_flow.specs.declared.flow.Point.{Point}
use Rattle.herm_flow.specs.View.{edge_view, target_view}
use Rattle.herm_fronts.specs.Blocks.{marked_view}
use Rattle.herm_fronts.specs.Forms.{form_seen}
use Rattle.herm_blocks.specs.declared.block.Block.{Block}
use Rattle.herm_blocks.specs.declared.node.Node.{Node}
use Rattle.herm_blocks.specs.declared.edges.Exit.{Exit}
use Rattle.herm_blocks.specs.declared.ways.Ways.{Ways}
use Rattle.herm_blocks.specs.Views.{slots_view}
use Rattle.herm_blocks.specs.Scopes.{SeenNode, SeenWays, MarkedBlock}

-- what is dropped on the edges of a node
abbrev pub drops_view : List (Vec Path Global) → List (List paths.Path)
drops_view drops = map (λ v. map path_view v.items) drops

abbrev pub exit_view : Exit → model.Edge
exit_view e = record { outcome = outcome_view e.outcome; makes = map fact_view e.makes.now; kills = map path_view e.kills.now; target = target_view e.to }

abbrev pub seen_node : Node → SeenNode
seen_node n = record { number = n.point.now.stmt.0; form = form_seen n.form.now; edges = map edge_view n.point.now.edges.items }

-- forms with what a flow says of each
abbrev pub seen_nodes : List TypedForm → List Point → List SeenNode
seen_nodes [] points = []
seen_nodes (f ∷ forms) [] = []
seen_nodes (f ∷ forms) (p ∷ points) = record { number = p.stmt.0; form = form_seen f; edges = map edge_view p.edges.items } ∷ seen_nodes forms points

abbrev pub ways_view : Ways → SeenWays
ways_view w = record { node = seen_node w.node; slots = slots_view w.slots.items; onward = w.onward; departures = map marked_view w.departures.items }

abbrev pub marked_block : Block → MarkedBlock
marked_block b = record {
  statement = b.statement;
  form = form_seen b.form.now;
  facts = map fact_view b.facts.items;
  slots = slots_view b.slots.items;
  onward = b.onward;
  departures = map marked_view b.departures.items;
}
