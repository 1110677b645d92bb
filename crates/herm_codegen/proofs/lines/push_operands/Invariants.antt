use Rattle.std.proofs.Common.{◌≡◌, ◌++◌, map}
use Rattle.herm_code.specs.View.{instr_view}
use Rattle.herm_fronts.specs.Operands.{instruction_of}
use Rattle.herm_fronts.specs.View.{item_view, key_view}
use Rattle.herm_codegen.proofs.lines.push_operands.Given as goal

abbrev pub invariant-items : goal.invariant-items
invariant-items l = map instr_view l.out.items ≡ map instr_view l.fn.out.items ++ map (instruction_of (map key_view l.keys.keys)) (map item_view l.yielded)
