use Rattle.std.proofs.Common.{subst}
use Rattle.herm_world.specs.Worlds.{IsWorld}
use Rattle.herm_world.proofs.RoundsOn.{led-along}
use Rattle.herm_world.proofs.world.World.run.Goals as goal

pub returns-clause-along : goal.returns-clause-along
returns-clause-along c = λ limits argument events w b shows.
    let is = subst IsWorld c.self.view_is ((c.self.invariant c.if-self.false).1) in
    led-along c.args.self.now c.go_along.new.world is.works limits argument events w b shows c.args.schedule.now c.in_ok-go_along.ensures.goes
