use Rattle.std.proofs.Common.{◌≡◌, take}
use Rattle.herm_values.proofs.copying.copy_key.Given as goal

abbrev pub invariant-scalars : goal.invariant-scalars
invariant-scalars l = l.copy.items ≡ take l.scalar-index l.key
