use Rattle.std.proofs.Common.{◌≡◌, ◌++◌, flat_map, drop}
use Rattle.herm_model.specs.Escapes.{escaped}
use Rattle.herm_letters.proofs.scalars.push_all_escaped.Given as goal

abbrev pub invariant-loop-byte : goal.invariant-loop-byte
invariant-loop-byte l = l.out.items ++ flat_map escaped (drop l.byte-index l.string) ≡ l.initial.out.items ++ flat_map escaped l.string
