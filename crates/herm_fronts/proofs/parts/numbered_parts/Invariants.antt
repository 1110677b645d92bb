use Rattle.std.proofs.Common.{◌≡◌, ◌++◌, map, drop}
use Rattle.herm_model.specs.Lists.{numbered}
use Rattle.herm_fronts.specs.Held.{part_view}
use Rattle.herm_fronts.proofs.parts.numbered_parts.Given as goal

abbrev pub invariant-parts : goal.invariant-parts
invariant-parts l = map part_view l.found.items ++ numbered l.place (map (λ p. p.of.0) (drop l.place l.parts)) ≡ numbered 0 (map (λ p. p.of.0) l.parts)
