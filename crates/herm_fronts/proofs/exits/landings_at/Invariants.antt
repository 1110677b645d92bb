use Rattle.std.proofs.Common.{◌≡◌, ◌++◌, map, drop}
use Rattle.herm_fronts.specs.Blocks.{exits_view, landings_view, landing_to}
use Rattle.herm_fronts.specs.Exits.{IsAlong}
use Rattle.herm_fronts.proofs.exits.landings_at.Given as goal

abbrev pub invariant-exceptions : goal.invariant-exceptions
invariant-exceptions l = (landings_view l.found.items ++ map (landing_to (exits_view l.exits)) (map (λ n. n.0) (drop l.e-index l.exceptions)) ≡ map (landing_to (exits_view l.exits)) (map (λ n. n.0) l.exceptions)) × IsAlong l.exits l.walk
