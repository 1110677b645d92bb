use Rattle.std.proofs.Common.{◌≡◌, ◌+◌, ◌-◌, length}
use Rattle.herm_resolve.specs.ControlInOnePass.{raise_one}
use Rattle.herm_resolve.proofs.reach.raise.Given as goal

-- With the exception, the table that has grown is the table at first.
abbrev pub invariant-places : goal.invariant-places
invariant-places l = raise_one l.raised.items l.place ≡ raise_one l.initial.raised.items l.place

abbrev pub decreases-places : goal.decreases-places
decreases-places l = l.place + 1 - length l.raised.items
