use Rattle.std.proofs.Common.{◌-◌, length}
use Rattle.std.specs.Prelude.{⊤}
use Rattle.herm_words.proofs.order.push_longest.Given as goal

abbrev pub invariant-loop-behind : goal.invariant-loop-behind
invariant-loop-behind l = ⊤

abbrev pub decreases-loop-behind : goal.decreases-loop-behind
decreases-loop-behind l = length l.next - l.at
