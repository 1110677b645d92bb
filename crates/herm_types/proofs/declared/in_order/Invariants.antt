use Rattle.std.proofs.Common.{◌≡◌, ◌++◌}
use Rattle.herm_types.proofs.declared.in_order.Given as goal

abbrev pub invariant-loop-fact : goal.invariant-loop-fact
invariant-loop-fact l = l.facts.items ++ l.fact-iterator ≡ l.fn.list.keys
