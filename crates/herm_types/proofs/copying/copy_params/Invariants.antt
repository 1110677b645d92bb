use Rattle.std.proofs.Common.{◌≡◌, map, take}
use Rattle.herm_types.proofs.copying.copy_params.Given as goal

abbrev pub invariant-loop-param : goal.invariant-loop-param
invariant-loop-param l = l.copies.items ≡ take l.param-index l.params
