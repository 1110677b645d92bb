use Rattle.std.proofs.Common.{◌≡◌, ◌-◌, false}
use Rattle.herm_world.specs.Going.{GoesOn, HasTurnsLeft}
use Rattle.herm_world.specs.Worlds.{IsOfSame}
use Rattle.herm_world.proofs.rounds.go_round.Given as goal

abbrev pub invariant-turns : goal.invariant-turns
invariant-turns l = record {
  alive : l.world.is_dead ≡ false;
  same : IsOfSame l.fn.world l.world;
  left : GoesOn (HasTurnsLeft l.from) l.fn.world l.world;
}

abbrev pub decreases-turns : goal.decreases-turns
decreases-turns l = 1025 - l.from
