use Rattle.std.proofs.Common.{◌↔◌, ap, subst, length, arith, List, Bool, ℕ, IsTrue, Vec, Global}
use Rattle.herm_types.specs.Table.{says, shapes_view}
use Rattle.herm_types.specs.Chosen.{lists}
use Rattle.herm_graph.specs.declared.graph.Rule.TheVariants.{AnyOf}
use Rattle.herm_graph.specs.Graph.{IsReached, AreReversed}
use Rattle.herm_graph.proofs.Rings.{rings}
use Rattle.herm_graph.proofs.cycles.in_rings.Goals as goal

pub reached-requires-2 : goal.reached-requires-2
reached-requires-2 c = record {
  few = omega (arith, ap length c.as_slice-5.ensures.value, c.in_ok-before.ensures.each, ap length c.as_slice.ensures.value, c.in_ok-inside.ensures.each, c.requires.few);
}

pub returns : goal.returns
returns c =
    let inside = c.in_ok-inside.inside.items in
    let goal = c.in_ok-goal.goal.items in
    let back = subst (λ (xs : List (Vec ℕ Global)). AreReversed (lists xs) (lists c.in_ok-before.before.items)) c.as_slice.ensures.value c.in_ok-before.ensures.reversed in
    let to = subst (λ (xs : List (Vec ℕ Global)). (t : ℕ) → IsTrue (says c.in_ok-leads.leads.items t) ↔ IsReached AnyOf goal (lists xs) t) c.as_slice-3.ensures.value
    (subst (λ (g : List Bool). (t : ℕ) → IsTrue (says c.in_ok-leads.leads.items t) ↔ IsReached AnyOf g (lists c.as_slice-3.result.now) t) c.as_slice-2.ensures.value c.in_ok-leads.ensures) in
    let from = subst (λ (xs : List (Vec ℕ Global)). (t : ℕ) → IsTrue (says c.in_ok-led.led.items t) ↔ IsReached AnyOf goal (lists xs) t) c.as_slice-5.ensures.value
    (subst (λ (g : List Bool). (t : ℕ) → IsTrue (says c.in_ok-led.led.items t) ↔ IsReached AnyOf g (lists c.as_slice-5.result.now) t) c.as_slice-4.ensures.value c.in_ok-led.ensures) in
    let both = subst (λ (a : List Bool). (t : ℕ) → IsTrue (says c.in_ok-tests.tests.items t) → IsTrue (says a t) × IsTrue (says c.in_ok-led.led.items t)) c.as_slice-6.ensures.value
    (subst (λ (b : List Bool). (t : ℕ) → IsTrue (says c.in_ok-tests.tests.items t) → IsTrue (says c.as_slice-6.result.now t) × IsTrue (says b t)) c.as_slice-7.ensures.value c.in_ok-tests.ensures) in
    rings (shapes_view c.args.shapes.now) (lists c.args.next.now) c.requires.named c.args.firsts.now (lists inside) c.in_ok-inside.ensures.inside goal c.in_ok-goal.ensures (lists c.in_ok-before.before.items) back c.in_ok-leads.leads.items c.in_ok-led.led.items c.in_ok-tests.tests.items to from both
