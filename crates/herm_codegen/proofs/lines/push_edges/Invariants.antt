use Rattle.std.proofs.Common.{◌≡◌, ◌++◌, map, flat_map, drop}
use Rattle.herm_translated.specs.Departures as model
use Rattle.herm_code.specs.View.{instr_view}
use Rattle.herm_fronts.specs.Blocks.{departure_view, starts_view}
use Rattle.herm_codegen.proofs.lines.push_edges.Given as goal

abbrev pub invariant-edges : goal.invariant-edges
invariant-edges l = map instr_view l.out.items ++ flat_map (model.edge_code (starts_view l.starts)) (map departure_view (drop l.edge-index l.edges)) ≡ map instr_view l.fn.out.items ++ flat_map (model.edge_code (starts_view l.starts)) (map departure_view l.edges)
