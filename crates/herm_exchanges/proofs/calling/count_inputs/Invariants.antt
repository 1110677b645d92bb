use Rattle.std.proofs.Common.{◌≡◌, ◌+◌, ◌≤◌, map, drop}
use Rattle.herm_instructions.specs.Operands.{count_inputs}
use Rattle.herm_code.specs.View.{argument_view}
use Rattle.herm_exchanges.proofs.calling.count_inputs.Given as goal

abbrev pub invariant-arguments : goal.invariant-arguments
invariant-arguments l = (l.count + count_inputs (map argument_view (drop l.a-index l.arguments)) ≡ count_inputs (map argument_view l.arguments)) × (l.count ≤ l.a-index)
