use Rattle.std.proofs.Common.{map}
use Rattle.herm_typed.specs.View.{outcome_view}
use Rattle.herm_judge.specs.View.{table_of, variables_of}
use Rattle.herm_flow.specs.View.{catch_view}
use Rattle.herm_flow.proofs.CoveredCalls.{call_outcomes_onward}
use Rattle.herm_flow.proofs.points.onward_outcomes.Goals as goal

pub returns-in_ok-found-in-Call : goal.returns-in_ok-found-in-Call
returns-in_ok-found-in-Call c = record {
  edges = λ leads left p. call_outcomes_onward (table_of c.args.frame.now) (variables_of c.args.frame.now) c.args.s.now.form c.in-Call.o c.in-Call.arguments c.as_slice.result.now (map catch_view c.args.catches.now) (map outcome_view c.in_ok-found-in-Call.found.items)
      c.in-Call.is c.as_slice.ensures.value c.in_ok-found-in-Call.ensures.outcomes leads left p;
}
