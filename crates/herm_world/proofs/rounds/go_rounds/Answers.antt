use Rattle.std.proofs.Common.{◌+◌, sym, ◌∙◌, arith, true≢false}
use Rattle.herm_world.proofs.GoingOn.{same-again, same-twice}
use Rattle.herm_world.proofs.RoundsOn.{rounds-first, rounds-step, rounds-done, rounds-enough}
use Rattle.herm_world.proofs.rounds.go_rounds.Goals as goal

pub rounds-init : goal.rounds-init
rounds-init c = record { alive = c.requires.alive; same = same-again c.args.world.now; behind = rounds-first c.args.world.now }

pub rounds-preserved : goal.rounds-preserved
rounds-preserved c = record {
  alive = c.in_ok-go_round.ensures.alive;
  same = same-twice c.args.world.now c.rounds.world c.go_round.new.world c.rounds.invariant.same c.go_round.ensures.same;
  behind =
      rounds-step c.args.world.now c.rounds.world c.go_round.new.world c.rounds.round (c.rounds.round + 1) c.rounds.invariant.same c.rounds.invariant.behind (λ none. true≢false (sym (c.is_over.ensures.over.1 none) ∙ c.if-is_over.false)) c.in_ok-go_round.ensures.goes (omega arith);
}

pub returns-then-is_over-clause-goes : goal.returns-then-is_over-clause-goes
returns-then-is_over-clause-goes c = rounds-done c.args.world.now c.rounds.world c.rounds.round (c.is_over.ensures.over.0 c.if-is_over.true) c.rounds.invariant.behind

pub unreachable-requires : goal.unreachable-requires
unreachable-requires c = rounds-enough c.args.world.now c.rounds.world (c.keeps.ensures.kept c.requires.alive) c.rounds.round c.rounds-test.false c.rounds.invariant.behind
