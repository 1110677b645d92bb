use Rattle.std.proofs.Common.{take}
use Rattle.herm_numbers.specs.Found.{Finds}
use Rattle.herm_numbers.proofs.index.firsts_of.Given as goal

abbrev pub invariant-loop-number : goal.invariant-loop-number
invariant-loop-number l = Finds (λ k. k.items) (take l.number l.words) l.firsts.entries
