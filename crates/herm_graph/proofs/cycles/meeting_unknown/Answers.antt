use Rattle.std.proofs.Common.{◌≡◌, ◌∙◌, ◌↔◌, ap, sym, subst, length, arith, List, Bool, ℕ, IsTrue, map, Vec, Global}
use Rattle.herm_model.specs.Types.{TypeTable, named_types}
use Rattle.herm_model.proofs.Lists.{length-map}
use Rattle.herm_types.specs.Table.{says, shapes_view}
use Rattle.herm_graph.specs.Links.{has_unknown}
use Rattle.herm_graph.specs.Met.{MeetsGoal}
use Rattle.herm_graph.proofs.UnknownNames.{unknown-met}
use Rattle.herm_graph.proofs.cycles.meeting_unknown.Goals as goal

pub returns : goal.returns
returns c table e r =
    let goal = c.in_ok-unknown.unknown.items in
    let tests = c.in_ok-meets.meets.items in
    let many : length c.args.next.now ≡ length table.shapes = omega (arith, ap length c.requires.named, length-map named_types (shapes_view c.args.shapes.now), length-map (λ (v : Vec ℕ Global). v.items) c.args.next.now, ap length e) in
    let met = subst (λ (shapes : TypeTable). (t : ℕ) → IsTrue (says tests t) ↔ MeetsGoal shapes goal t) (sym e)
    (subst (λ (g : List Bool). (t : ℕ) → IsTrue (says tests t) ↔ MeetsGoal (shapes_view c.args.shapes.now) g t) c.as_slice.ensures.value c.in_ok-meets.ensures) in
    unknown-met table c.args.exceptions (length c.args.next.now) r many goal tests (c.in_ok-unknown.ensures ∙ ap (map (has_unknown (length c.args.next.now) c.args.exceptions)) (sym e)) met
