use Rattle.std.proofs.Common.{◌≡◌, None, option_map, sym, ap, subst, ◌∙◌}
use Rattle.herm_model.proofs.Options.{none-not_some}
use Rattle.herm_pieces.specs.View.{met_view, ready_view}
use Rattle.herm_values.specs.View.{value_view}
use Rattle.herm_answers.specs.Puttings.{IsPutting}
use Rattle.herm_answers.specs.declared.putting.Putting.TheVariants as puttings
use Rattle.herm_answers.proofs.Placed.{order_at, order_found, order_stuck}
use Rattle.herm_answers.proofs.putting.was_sent_back.Goals as goal

pub returns-in_default : goal.returns-in_default
returns-in_default c = record {
  answered = λ s at o wanted. none-not_some (ap (option_map met_view) (sym c.in_default.is) ∙ c.ordered.ensures.ordered s o);
}

pub returns-in_ok-runs-in-Sending : goal.returns-in_ok-runs-in-Sending
returns-in_ok-runs-in-Sending c = record {
  answered = λ s at o wanted.
      let met = met_view c.in-Some.met in
      let same = order_found (ready_view c.args.code.now) c.args.process.now s o (option_map met_view c.ordered.result) met (c.ordered.ensures.ordered s o) (ap (option_map met_view) c.in-Some.is) in
      let h : IsPutting (puttings.Sending c.in-Sending.source) met.instruction = subst (λ x. IsPutting x met.instruction) c.in-Sending.is c.putting_of.ensures.putting in
      c.in_ok-runs-in-Sending.ensures.answered s at o h.0 h.1 same h.2;
}

pub returns-in_ok-runs-in-Calling : goal.returns-in_ok-runs-in-Calling
returns-in_ok-runs-in-Calling c = record {
  answered = λ s at o wanted.
      let met = met_view c.in-Some.met in
      let same = order_found (ready_view c.args.code.now) c.args.process.now s o (option_map met_view c.ordered.result) met (c.ordered.ensures.ordered s o) (ap (option_map met_view) c.in-Some.is) in
      let h : IsPutting (puttings.Calling c.in-Calling.arguments) met.instruction = subst (λ x. IsPutting x met.instruction) c.in-Calling.is c.putting_of.ensures.putting in
      c.in_ok-runs-in-Calling.ensures.answered s at o h.0 h.1 same h.2 wanted;
}

pub returns-in-Other : goal.returns-in-Other
returns-in-Other c = record {
  answered = λ s at o wanted.
      let code = ready_view c.args.code.now in
      let p = c.args.process.now in
      let met = met_view c.in-Some.met in
      let same = order_found code p s o (option_map met_view c.ordered.result) met (c.ordered.ensures.ordered s o) (ap (option_map met_view) c.in-Some.is) in
      order_stuck code s p met (order_at code p s o met same) at None (value_view c.args.message) (subst (λ x. IsPutting x met.instruction) c.in-Other.is c.putting_of.ensures.putting);
}
