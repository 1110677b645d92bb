use Rattle.std.proofs.Common.{length, map, sym, subst}
use Rattle.herm_model.proofs.Lists.{length-map}
use Rattle.herm_code.specs.View.{argument_view, instr_view}
use Rattle.herm_frames.specs.Completed.{outcome_view}
use Rattle.herm_pieces.specs.View.{met_view, position_view, ready_view}
use Rattle.herm_steps.specs.HeldStates.{HeldState}
use Rattle.herm_values.specs.View.{value_view}
use Rattle.herm_answers.proofs.Placed.{OrderAt, call_back_behind, order_at, put_in}
use Rattle.herm_answers.proofs.putting.call_came_back.Goals as goal

pub returns : goal.returns
returns c = record {
  answered = λ s at o port keeps same is wanted.
      let code = ready_view c.args.code.now in
      let p : HeldState = record { position = position_view c.process.inside.position; stack = c.process.inside.stack; frame = c.process.inside.frame } in
      let met = met_view c.args.met in
      let items = c.args.code.now.code.now.code.items in
      let v = value_view c.args.message in
      let order : OrderAt code p s met = subst (λ q. OrderAt code q s met) (sym c.process.view_is) (order_at code c.args.process.now s o met same) in
      call_back_behind code s p c.go_on.new.process met order port (map argument_view c.args.arguments.now) keeps c.refused.new.frame c.in_ok-runs.runs at (length items) c.outcome_of-outcome.result (outcome_view c.in_ok-outcome.outcome) v wanted.0 is (length-map instr_view items)
      wanted.1 (put_in code v s wanted) c.outcome_of-outcome.ensures.outcome c.in_ok-outcome.ensures.settles (c.in_ok-runs.ensures.settled s);
}
