use Rattle.std.proofs.Common.{◌≡◌, ◌++◌, [], ◌∷◌, map, take, flat_map}
use Rattle.herm_model.specs.Paths as model
use Rattle.herm_model.specs.Facts as facts
use Rattle.herm_types.specs.View.{path_view, fact_view}
use Rattle.herm_types.specs.Table.{shapes_view}
use Rattle.herm_types.proofs.messages.all_said.Given as goal

abbrev pub invariant-loop-fact : goal.invariant-loop-fact
invariant-loop-fact l = map fact_view l.out.items ≡ map (facts.said_at (path_view l.path)) (map fact_view (take l.fact-index l.list))
