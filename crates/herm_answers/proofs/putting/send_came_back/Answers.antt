use Rattle.std.proofs.Common.{length, sym, subst}
use Rattle.herm_model.proofs.Lists.{length-map}
use Rattle.herm_code.specs.View.{instr_view}
use Rattle.herm_frames.specs.Completed.{outcome_view}
use Rattle.herm_pieces.specs.View.{met_view, position_view, ready_view}
use Rattle.herm_steps.specs.HeldStates.{HeldState}
use Rattle.herm_types.specs.View.{path_view}
use Rattle.herm_values.specs.View.{value_view}
use Rattle.herm_answers.proofs.Placed.{OrderAt, order_at, send_back_behind}
use Rattle.herm_answers.proofs.putting.send_came_back.Goals as goal

pub returns : goal.returns
returns c = record {
  answered = λ s at o port trim same is.
      let code = ready_view c.args.code.now in
      let p : HeldState = record { position = position_view c.process.inside.position; stack = c.process.inside.stack; frame = c.process.inside.frame } in
      let met = met_view c.args.met in
      let items = c.args.code.now.code.now.code.items in
      let order : OrderAt code p s met = subst (λ q. OrderAt code q s met) (sym c.process.view_is) (order_at code c.args.process.now s o met same) in
      send_back_behind code s p c.go_on.new.process met order (path_view c.args.source.now) port trim c.came_back.new.frame c.in_ok-runs.runs at (length items) c.outcome_of-outcome.result (outcome_view c.in_ok-outcome.outcome) (value_view c.args.message) is (length-map instr_view items)
      c.outcome_of-outcome.ensures.outcome c.in_ok-outcome.ensures.settles (c.in_ok-runs.ensures.settled s);
}
