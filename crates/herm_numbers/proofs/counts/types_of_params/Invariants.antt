use Rattle.std.proofs.Common.{◌≡◌, map, take}
use Rattle.herm_numbers.proofs.counts.types_of_params.Given as goal

abbrev pub invariant-params : goal.invariant-params
invariant-params l = l.found.items ≡ map (λ p. p.of.0) (take l.param-index l.params)
