use Rattle.std.proofs.Common.{◌≡◌, map, take}
use Rattle.herm_defs.proofs.context.field_words.Given as goal

abbrev pub invariant-loop-part : goal.invariant-loop-part
invariant-loop-part l = l.words.items ≡ map (λ p. p.name) (take l.part-index l.parts)
