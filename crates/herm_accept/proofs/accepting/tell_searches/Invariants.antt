use Rattle.std.proofs.Common.{map}
use Rattle.herm_accept.specs.Lacking.{EachOf, IsTold}
use Rattle.herm_accept.proofs.accepting.tell_searches.Given as goal

abbrev pub invariant-searches : goal.invariant-searches
invariant-searches l = EachOf (IsTold l.types l.sites) l.yielded (map (λ paths. paths.value) l.all.items)
