use Rattle.std.proofs.Common.{◌≡◌, ◌<◌, ◌∙◌, ◌↔◌, ◌||◌, ap, sym, subst, length, arith, List, Bool, ℕ, IsTrue, map, Vec, Global}
use Rattle.herm_model.proofs.Lists.{length-map}
use Rattle.herm_types.specs.Table.{says, shapes_view}
use Rattle.herm_types.specs.Chosen.{lists}
use Rattle.herm_graph.specs.Links.{composed_types}
use Rattle.herm_graph.specs.declared.graph.Rule.TheVariants.{AnyOf}
use Rattle.herm_graph.specs.Graph.{IsReached}
use Rattle.herm_graph.proofs.UnknownNames.{settled-exact}
use Rattle.herm_graph.proofs.copies.unsettled_of.Goals as goal

pub returns : goal.returns
returns c table e =
    let unknown = c.in_ok-unknown.unknown.items in
    let below = c.in_ok-below.below.items in
    let tests = c.in_ok-unsettled.unsettled.items in
    let many : length c.args.composed.now ≡ length table.shapes = omega (arith, ap length c.requires.composed, length-map composed_types (shapes_view c.args.shapes.now), length-map (λ (v : Vec ℕ Global). v.items) c.args.composed.now, ap length e) in
    let reached = subst (λ (g : List Bool). (t : ℕ) → IsTrue (says below t) ↔ IsReached AnyOf g (lists c.args.composed.now) t) c.as_slice.ensures.value c.in_ok-below.ensures in
    let said = subst (λ (a : List Bool). (t : ℕ) → t < length a → says tests t ≡ (says a t || says below t)) c.as_slice-2.ensures.value
    (subst (λ (b : List Bool). (t : ℕ) → t < length c.as_slice-2.result.now → says tests t ≡ (says c.as_slice-2.result.now t || says b t)) c.as_slice-3.ensures.value c.in_ok-unsettled.ensures) in
    settled-exact table (lists c.args.composed.now) (c.requires.composed ∙ ap (map composed_types) (sym e)) (length c.args.composed.now) many unknown c.in_ok-unknown.ensures below tests reached said
