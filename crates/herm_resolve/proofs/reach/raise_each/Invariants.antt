use Rattle.std.proofs.Common.{◌≡◌, drop}
use Rattle.herm_resolve.specs.ControlInOnePass.{raise_all, members}
use Rattle.herm_resolve.proofs.reach.raise_each.Given as goal

abbrev pub invariant-inner : goal.invariant-inner
invariant-inner l = raise_all l.raised.items (members l.place (drop l.place l.inner)) ≡ raise_all l.initial.raised.items (members 0 l.inner)
