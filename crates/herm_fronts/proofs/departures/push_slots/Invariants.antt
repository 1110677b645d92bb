use Rattle.std.proofs.Common.{◌≡◌, ◌++◌, map, drop}
use Rattle.herm_instructions.specs.Instructions as model
use Rattle.herm_code.specs.View.{instr_view}
use Rattle.herm_fronts.proofs.departures.push_slots.Given as goal

abbrev pub invariant-slots : goal.invariant-slots
invariant-slots l = map instr_view l.out.items ++ map model.LoopDrop (drop l.slot-index l.slots) ≡ map instr_view l.fn.out.items ++ map model.LoopDrop l.slots
