use Rattle.std.proofs.Common.{◌≡◌, ◌+◌, ◌++◌, ◌∷◌, [], take, get_or, sym, subst, true≢false}
use Rattle.std.proofs.lemmas.List.{take_more, take_all}
use Rattle.herm_world.specs.Going.{GoesOn, IsAlong}
use Rattle.herm_world.proofs.GoingOn.{same-again, same-twice}
use Rattle.herm_world.proofs.RoundsOn.{along-first, along-next}
use Rattle.herm_world.proofs.rounds.go_along.Goals as goal

pub loop-p-init : goal.loop-p-init
loop-p-init c = record { alive = c.requires.alive; same = same-again c.args.world.now; goes = along-first c.args.world.now }

pub loop-p-preserved : goal.loop-p-preserved
loop-p-preserved c =
    let p = get_or c.args.schedule.now c.loop-p.p-index 0 in
    let longer : take c.loop-p.p-index c.args.schedule.now ++ p ∷ [] ≡ take (c.loop-p.p-index + 1) c.args.schedule.now = sym (take_more c.args.schedule.now c.loop-p.p-index 0 c.loop-p-test.true) in record {
      alive = c.in_ok-pass.ensures.alive;
      same = same-twice c.args.world.now c.loop-p.world c.pass.new.world c.loop-p.invariant.same c.pass.ensures.same;
      goes =
          subst (λ ps. GoesOn (IsAlong ps) c.args.world.now c.pass.new.world) longer
          (along-next (take c.loop-p.p-index c.args.schedule.now) p c.args.world.now c.loop-p.world c.pass.new.world c.loop-p.invariant.same c.loop-p.invariant.goes c.in_ok-pass.ensures.goes);
    }

pub returns : goal.returns
returns c =
    let whole : take c.loop-p.p-index c.args.schedule.now ≡ c.args.schedule.now = take_all c.loop-p.p-index c.args.schedule.now c.loop-p-test.false in record {
      goes = subst (λ ps. GoesOn (IsAlong ps) c.args.world.now c.loop-p.world) whole c.loop-p.invariant.goes;
      same = c.loop-p.invariant.same;
      failed = λ e. absurd (true≢false (sym e));
    }
