use Rattle.std.specs.Prelude.{⊤}
use Rattle.herm_words.proofs.order.order_of.Given as goal

abbrev pub invariant-loop-first : goal.invariant-loop-first
invariant-loop-first l = ⊤
