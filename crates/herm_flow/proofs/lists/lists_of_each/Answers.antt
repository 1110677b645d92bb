use Rattle.std.proofs.Common.{take, length, sym, ap, subst, refl, arith}
use Rattle.std.proofs.lemmas.List.{take_more, take_all}
use Rattle.herm_model.specs.Lists.{IsIn}
use Rattle.herm_flow.specs.Listed.{AreLed}
use Rattle.herm_flow.proofs.LedEdges.{led_none}
use Rattle.herm_flow.proofs.lists.lists_of_each.Goals as goal

pub each-init : goal.each-init
each-init c = record {
  listed = record { edges = λ e m. absurd (subst (IsIn e) c.in_ok-with_capacity.ensures.items m); few = let empty = ap length c.new-2.ensures.items in omega (arith, empty) };
  led = led_none c.args.frame.now c.args.form.now _ _ c.in_ok-with_capacity.ensures.items refl;
}

pub each-preserved : goal.each-preserved
each-preserved c = record {
  listed = c.in_ok-push_listed.ensures.listed;
  led = subst (AreLed c.args.frame.now c.args.form.now _) (sym (take_more c.args.leads.now c.each.lead-index _ c.each-test.true)) (c.in_ok-push_listed.ensures.led (take c.each.lead-index c.args.leads.now) c.each.invariant.led);
}

pub returns-clause-led : goal.returns-clause-led
returns-clause-led c = subst (AreLed c.args.frame.now c.args.form.now c.each.lists.edges.items) (take_all c.each.lead-index c.args.leads.now (omega (arith, c.each-test.false))) c.each.invariant.led
