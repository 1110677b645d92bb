use Rattle.std.proofs.Common.{◌≡◌, ◌++◌, map, drop}
use Rattle.herm_types.specs.View.{path_view}
use Rattle.herm_instructions.specs.Instructions as model
use Rattle.herm_code.specs.View.{instr_view}
use Rattle.herm_fronts.proofs.departures.push_drops.Given as goal

abbrev pub invariant-drops : goal.invariant-drops
invariant-drops l = map instr_view l.out.items ++ map model.Drop (map path_view (drop l.path-index l.drops)) ≡ map instr_view l.fn.out.items ++ map model.Drop (map path_view l.drops)
