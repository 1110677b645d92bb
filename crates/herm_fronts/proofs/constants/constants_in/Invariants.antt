use Rattle.std.proofs.Common.{◌≡◌, ◌++◌, map, drop}
use Rattle.herm_code.specs.View.{const_view}
use Rattle.herm_fronts.specs.View.{key_view}
use Rattle.herm_fronts.proofs.constants.constants_in.Given as goal

abbrev pub invariant-places : goal.invariant-places
invariant-places l = map const_view l.found.items ++ map key_view (drop l.place l.keys.keys) ≡ map key_view l.keys.keys
