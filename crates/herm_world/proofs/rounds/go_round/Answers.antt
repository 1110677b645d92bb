use Rattle.std.proofs.Common.{◌+◌, sym, arith, true≢false}
use Rattle.herm_world.proofs.GoingOn.{same-again, same-twice}
use Rattle.herm_world.proofs.RoundsOn.{turns-first, turns-step, turns-end}
use Rattle.herm_world.proofs.RunsOn.{next-there}
use Rattle.herm_world.proofs.rounds.go_round.Goals as goal

pub turns-init : goal.turns-init
turns-init c = record { alive = c.requires.alive; same = same-again c.args.world.now; left = turns-first c.args.world.now }

pub turns-preserved : goal.turns-preserved
turns-preserved c = record {
  alive = c.in_ok-pass.ensures.alive;
  same = same-twice c.args.world.now c.turns.world c.pass.new.world c.turns.invariant.same c.pass.ensures.same;
  left =
      turns-step c.args.world.now c.turns.world c.pass.new.world c.turns.from c.in-Some.p (c.in-Some.p + 1) c.turns.invariant.same c.turns.invariant.left (sym c.in-Some.ensures.first) c.in_ok-pass.ensures.goes (omega arith);
}

pub turns-smaller : goal.turns-smaller
turns-smaller c =
    let low = (next-there c.turns.from c.turns.world.ready.members c.in-Some.p (sym c.in-Some.ensures.first)).0 in
    let few = c.in-Some.ensures.few in
    omega (arith, low, few)

pub returns : goal.returns
returns c = record {
  goes = turns-end c.args.world.now c.turns.world c.turns.from (sym c.in_default.ensures.first) c.turns.invariant.left;
  alive = c.turns.invariant.alive;
  same = c.turns.invariant.same;
  failed = λ e. absurd (true≢false (sym e));
}
