use Rattle.std.proofs.Common.{◌≡◌, take}
use Rattle.herm_defs.proofs.context.value_words.Given as goal

abbrev pub invariant-loop-value : goal.invariant-loop-value
invariant-loop-value l = l.words.items ≡ take l.value-index l.values
