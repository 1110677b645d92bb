use Rattle.std.proofs.Common.{◌≡◌, false}
use Rattle.herm_world.specs.Going.{GoesOn, IsBehindRounds}
use Rattle.herm_world.specs.Worlds.{IsOfSame}
use Rattle.herm_world.proofs.rounds.go_rounds.Given as goal

abbrev pub invariant-rounds : goal.invariant-rounds
invariant-rounds l = record {
  alive : l.world.is_dead ≡ false;
  same : IsOfSame l.fn.world l.world;
  behind : GoesOn (IsBehindRounds l.round) l.fn.world l.world;
}
