use Rattle.std.proofs.Common.{◌≡◌, map, drop}
use Rattle.herm_code.specs.View.{instr_view}
use Rattle.herm_code_machine.specs.Pieces.{action_from}
use Rattle.herm_pieces.proofs.pieces.action_from.Given as goal

abbrev pub invariant-indices : goal.invariant-indices
invariant-indices l = action_from l.types.shapes (map instr_view (drop l.index l.code)) l.index ≡ action_from l.types.shapes (map instr_view (drop l.first l.code)) l.first
