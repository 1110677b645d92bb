use Rattle.std.proofs.Common.{◌≡◌, map, take}
use Rattle.herm_numbers.proofs.part_names.words_of_params.Given as goal

abbrev pub invariant-params : goal.invariant-params
invariant-params l = l.found.items ≡ map (λ p. p.name) (take l.param-index l.params)
