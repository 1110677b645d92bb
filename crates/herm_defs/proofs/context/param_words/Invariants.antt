use Rattle.std.proofs.Common.{◌≡◌, map, take}
use Rattle.herm_defs.proofs.context.param_words.Given as goal

abbrev pub invariant-loop-param : goal.invariant-loop-param
invariant-loop-param l = l.words.items ≡ map (λ p. p.name) (take l.param-index l.params)
