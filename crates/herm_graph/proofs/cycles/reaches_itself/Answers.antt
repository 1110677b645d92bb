use Rattle.std.proofs.Common.{◌≡◌, subst, sym, List, Bool, ℕ, IsTrue}
use Rattle.herm_types.specs.Table.{says, shapes_view}
use Rattle.herm_types.specs.Chosen.{lists}
use Rattle.herm_graph.proofs.Meeting.{itself}
use Rattle.herm_graph.proofs.cycles.reaches_itself.Goals as goal

pub returns : goal.returns
returns c =
    let said = subst (λ (tests : List Bool). IsTrue (says tests c.args.t)) (sym c.as_slice.ensures.value) c.in_ok-goal.ensures.said in
    let alone = subst (λ (tests : List Bool). (u : ℕ) → IsTrue (says tests u) → u ≡ c.args.t) (sym c.as_slice.ensures.value) c.in_ok-goal.ensures.alone in
    rw (c.says.ensures, c.as_slice-2.ensures.value) (itself (shapes_view c.args.shapes.now) (lists c.args.next.now) c.requires.named c.as_slice.result.now c.in_ok-found.found.items c.args.t said alone c.in_ok-found.ensures)
