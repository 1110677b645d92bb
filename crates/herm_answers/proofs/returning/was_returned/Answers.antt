use Rattle.std.proofs.Common.{option_map, sym, ap, subst, ◌∙◌}
use Rattle.herm_model.proofs.Options.{none-not_some}
use Rattle.herm_pieces.specs.View.{met_view, ready_view}
use Rattle.herm_answers.specs.Returning.{IsReturning, returned_from}
use Rattle.herm_answers.specs.declared.returning.Returning.TheVariants as returnings
use Rattle.herm_answers.proofs.Placed.{order_at, order_found}
use Rattle.herm_answers.proofs.Returned.{not_returning_behind}
use Rattle.herm_answers.proofs.returning.was_returned.Goals as goal

pub returns-in_default : goal.returns-in_default
returns-in_default c = record {
  answered = λ s at call reply o. none-not_some (ap (option_map met_view) (sym c.in_default.is) ∙ c.ordered.ensures.ordered s o);
}

pub returns-in_ok-runs-in-Values : goal.returns-in_ok-runs-in-Values
returns-in_ok-runs-in-Values c = record {
  answered = λ s at call reply o.
      let met = met_view c.in-Some.met in
      let same = order_found (ready_view c.args.code.now) c.args.process.now s o (option_map met_view c.ordered.result) met (c.ordered.ensures.ordered s o) (ap (option_map met_view) c.in-Some.is) in
      let h : IsReturning (returnings.Values c.in-Values.source) met.instruction = subst (λ x. IsReturning x met.instruction) c.in-Values.is c.returning_of.ensures.returning in
      c.in_ok-runs-in-Values.ensures.answered s at call reply o same (ap returned_from h);
}

pub returns-in_ok-runs-in-Raised : goal.returns-in_ok-runs-in-Raised
returns-in_ok-runs-in-Raised c = record {
  answered = λ s at call reply o.
      let met = met_view c.in-Some.met in
      let same = order_found (ready_view c.args.code.now) c.args.process.now s o (option_map met_view c.ordered.result) met (c.ordered.ensures.ordered s o) (ap (option_map met_view) c.in-Some.is) in
      let h : IsReturning (returnings.Raised c.in-Raised.source c.in-Raised.field-1 c.in-Raised.field-2) met.instruction = subst (λ x. IsReturning x met.instruction) c.in-Raised.is c.returning_of.ensures.returning in
      c.in_ok-runs-in-Raised.ensures.answered s at call reply o same (ap returned_from h);
}

pub returns-in-Other : goal.returns-in-Other
returns-in-Other c = record {
  answered = λ s at call reply o.
      let code = ready_view c.args.code.now in
      let p = c.args.process.now in
      let met = met_view c.in-Some.met in
      let same = order_found code p s o (option_map met_view c.ordered.result) met (c.ordered.ensures.ordered s o) (ap (option_map met_view) c.in-Some.is) in
      not_returning_behind code s p met (order_at code p s o met same) at call reply (subst (λ x. IsReturning x met.instruction) c.in-Other.is c.returning_of.ensures.returning);
}
