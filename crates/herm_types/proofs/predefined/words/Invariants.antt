use Rattle.std.proofs.Common.{◌≡◌, map, take}
use Rattle.herm_types.proofs.predefined.words.Given as goal

abbrev pub invariant-loop-text : goal.invariant-loop-text
invariant-loop-text l = l.words.items ≡ map (λ t. t.now) (take l.text-index l.texts)
