use Rattle.std.proofs.Common.{◌≡◌, map, take}
use Rattle.herm_types.proofs.copying.copy_parts.Given as goal

abbrev pub invariant-loop-part : goal.invariant-loop-part
invariant-loop-part l = l.copies.items ≡ take l.part-index l.parts
