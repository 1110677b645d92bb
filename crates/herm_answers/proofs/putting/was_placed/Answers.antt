use Rattle.std.proofs.Common.{◌≡◌, Some, length, map, option_map, sym, ap, subst, ◌∙◌}
use Rattle.herm_model.proofs.Lists.{length-map}
use Rattle.herm_model.proofs.Options.{none-not_some}
use Rattle.herm_code.specs.View.{argument_view, instr_view}
use Rattle.herm_pieces.specs.View.{met_view, ready_view}
use Rattle.herm_types.specs.View.{path_view}
use Rattle.herm_answers.specs.Puttings.{IsPutting}
use Rattle.herm_answers.specs.declared.putting.Putting.TheVariants as puttings
use Rattle.herm_answers.proofs.Placed.{call_placed_behind, order_at, order_found, order_stuck, send_placed_behind}
use Rattle.herm_answers.proofs.putting.was_placed.Goals as goal

pub returns-in_default : goal.returns-in_default
returns-in_default c = record {
  answered = λ s at number m o. none-not_some (ap (option_map met_view) (sym c.in_default.is) ∙ c.ordered.ensures.ordered s o);
}

pub returns-in_ok-runs-in-Sending : goal.returns-in_ok-runs-in-Sending
returns-in_ok-runs-in-Sending c = record {
  answered = λ s at number m o.
      let code = ready_view c.args.code.now in
      let p = c.args.process.now in
      let met = met_view c.in-Some.met in
      let items = c.args.code.now.code.now.code.items in
      let same = order_found code p s o (option_map met_view c.ordered.result) met (c.ordered.ensures.ordered s o) (ap (option_map met_view) c.in-Some.is) in
      let h : IsPutting (puttings.Sending c.in-Sending.field-0) met.instruction = subst (λ x. IsPutting x met.instruction) c.in-Sending.is c.putting_of.ensures.putting in
      send_placed_behind code s p c.go_on.new.process met (order_at code p s o met same) (path_view c.in-Sending.field-0.now) h.0 h.1 c.in_ok-runs-in-Sending.runs at number (length items) m h.2 (length-map instr_view items) (c.in_ok-runs-in-Sending.ensures.settled s);
}

pub returns-in_ok-runs-in-Calling : goal.returns-in_ok-runs-in-Calling
returns-in_ok-runs-in-Calling c = record {
  answered = λ s at number m o.
      let code = ready_view c.args.code.now in
      let p = c.args.process.now in
      let met = met_view c.in-Some.met in
      let same = order_found code p s o (option_map met_view c.ordered.result) met (c.ordered.ensures.ordered s o) (ap (option_map met_view) c.in-Some.is) in
      let h : IsPutting (puttings.Calling c.in-Calling.field-0) met.instruction = subst (λ x. IsPutting x met.instruction) c.in-Calling.is c.putting_of.ensures.putting in
      call_placed_behind code s p c.wait_at.new.process met (order_at code p s o met same) h.0 (map argument_view c.in-Calling.field-0.now) h.1 c.in_ok-runs-in-Calling.runs at number m h.2 (c.in_ok-runs-in-Calling.ensures.waits s);
}

pub returns-in-Other : goal.returns-in-Other
returns-in-Other c = record {
  answered = λ s at number m o.
      let code = ready_view c.args.code.now in
      let p = c.args.process.now in
      let met = met_view c.in-Some.met in
      let same = order_found code p s o (option_map met_view c.ordered.result) met (c.ordered.ensures.ordered s o) (ap (option_map met_view) c.in-Some.is) in
      order_stuck code s p met (order_at code p s o met same) at (Some number) m (subst (λ x. IsPutting x met.instruction) c.in-Other.is c.putting_of.ensures.putting);
}
