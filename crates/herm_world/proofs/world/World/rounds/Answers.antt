use Rattle.std.proofs.Common.{subst}
use Rattle.herm_world.specs.Worlds.{IsWorld}
use Rattle.herm_world.proofs.RoundsOn.{led-to-end}
use Rattle.herm_world.proofs.world.World.rounds.Goals as goal

pub returns-clause-ends : goal.returns-clause-ends
returns-clause-ends c = λ limits argument events w b shows.
    let is = subst IsWorld c.self.view_is ((c.self.invariant c.if-self.false).1) in
    led-to-end c.args.self.now c.go_rounds.new.world is.works limits argument events w b shows c.in_ok-go_rounds.ensures.goes

pub returns-clause-nobody : goal.returns-clause-nobody
returns-clause-nobody c =
    let is = subst IsWorld c.self.view_is ((c.self.invariant c.if-self.false).1) in
    (led-to-end c.args.self.now c.go_rounds.new.world is.works is.limits is.argument is.events is.run is.bare is.shows c.in_ok-go_rounds.ensures.goes).nobody
