use Rattle.std.proofs.Common.{map, drop, sym, ap, ◌∙◌, ◌++◌, filter, append-nil}
use Rattle.std.proofs.Math.Seq.{drop-cons}
use Rattle.std.proofs.Math.ListN.{drop_of_length-le}
use Rattle.herm_typed.specs.View.{outcome_view}
use Rattle.herm_flow.specs.View.{target_view, catch_view}
use Rattle.herm_flow.specs.Edges.{exits_from}
use Rattle.herm_flow.specs.Listed.{exits_on, lead_view}
use Rattle.herm_flow.proofs.ExitsOn.{next_exits}
use Rattle.herm_flow.proofs.leads.leads_on.Goals as goal

pub each-preserved : goal.each-preserved
each-preserved c =
    next_exits (map catch_view c.args.catches.now) _ c.args.outcomes.now c.each.outcome-index (map lead_view c.each.found.items) (map lead_view c.push_exit.new.found.items) _ (map target_view (drop c.each.taken c.args.leads.now)) (map target_view (drop c.in_ok-n.n c.args.leads.now))
    (drop-cons c.args.outcomes.now c.each.outcome-index _ c.each-test.true) c.in_ok-n.ensures.found c.in_ok-n.ensures.left c.each.invariant

pub returns : goal.returns
returns c = record {
  found = sym (append-nil (map lead_view c.each.found.items))
      ∙ (sym (ap (λ os. map lead_view c.each.found.items ++ filter exits_on (exits_from (map outcome_view os) (map target_view (drop c.each.taken c.args.leads.now)) (map catch_view c.args.catches.now))) (drop_of_length-le c.args.outcomes.now c.each-test.false))
      ∙ c.each.invariant);
}
