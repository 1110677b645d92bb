use Rattle.std.proofs.Common.{◌≡◌, map, take}
use Rattle.herm_defs.proofs.listed.raise_names.Given as goal

abbrev pub invariant-loop-raise : goal.invariant-loop-raise
invariant-loop-raise l = l.words.items ≡ map (λ r. r.name.text) (take l.raise-index l.raises)
