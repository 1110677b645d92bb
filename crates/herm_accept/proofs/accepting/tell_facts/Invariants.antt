use Rattle.std.proofs.Common.{map}
use Rattle.herm_accept.specs.Lacking.{EachOf, IsLost}
use Rattle.herm_accept.proofs.accepting.tell_facts.Given as goal

abbrev pub invariant-facts : goal.invariant-facts
invariant-facts l = EachOf (IsLost l.types l.p) l.yielded (map (λ lost. lost.value) l.all.items)
