use Rattle.std.proofs.Common.{◌≡◌, false, take}
use Rattle.herm_world.specs.Going.{GoesOn, IsAlong}
use Rattle.herm_world.specs.Worlds.{IsOfSame}
use Rattle.herm_world.proofs.rounds.go_along.Given as goal

abbrev pub invariant-loop-p : goal.invariant-loop-p
invariant-loop-p l = record {
  alive : l.world.is_dead ≡ false;
  same : IsOfSame l.fn.world l.world;
  goes : GoesOn (IsAlong (take l.p-index l.schedule)) l.fn.world l.world;
}
