use Rattle.std.proofs.Common.{length, sym, subst}
use Rattle.herm_model.proofs.Lists.{length-map}
use Rattle.herm_code.specs.View.{instr_view}
use Rattle.herm_frames.specs.Completed.{outcome_view}
use Rattle.herm_pieces.specs.View.{met_view, position_view, ready_view}
use Rattle.herm_steps.specs.HeldStates.{HeldState}
use Rattle.herm_types.specs.View.{path_view}
use Rattle.herm_answers.proofs.Placed.{OrderAt, order_at}
use Rattle.herm_answers.proofs.Returned.{return_given_behind}
use Rattle.herm_answers.proofs.returning.call_was_given.Goals as goal

pub returns : goal.returns
returns c = record {
  answered = λ s at call reply o same is.
      let code = ready_view c.args.code.now in
      let p : HeldState = record { position = position_view c.process.inside.position; stack = c.process.inside.stack; frame = c.process.inside.frame } in
      let met = met_view c.args.met in
      let items = c.args.code.now.code.now.code.items in
      let order : OrderAt code p s met = subst (λ q. OrderAt code q s met) (sym c.process.view_is) (order_at code c.args.process.now s o met same) in
      return_given_behind code s p c.go_on.new.process met order (path_view c.args.source.now) c.given.new.frame c.in_ok-runs.runs at call (length items) reply c.outcome_of-outcome.result (outcome_view c.in_ok-outcome.outcome) is (length-map instr_view items)
      c.outcome_of-outcome.ensures.outcome (λ t cells who stands caller. c.in_ok-outcome.ensures.settles t cells who call reply stands caller) (c.in_ok-runs.ensures.settled s);
}
