use Rattle.std.proofs.Common.{◌≡◌, ◌++◌}
use Rattle.herm_types.proofs.build.append_words.Given as goal

abbrev pub invariant-loop-word : goal.invariant-loop-word
invariant-loop-word l = l.words.items ≡ l.fn.words.items ++ l.yielded
