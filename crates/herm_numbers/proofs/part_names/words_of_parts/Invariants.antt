use Rattle.std.proofs.Common.{◌≡◌, map, take}
use Rattle.herm_numbers.proofs.part_names.words_of_parts.Given as goal

abbrev pub invariant-parts : goal.invariant-parts
invariant-parts l = l.found.items ≡ map (λ p. p.name) (take l.part-index l.parts)
