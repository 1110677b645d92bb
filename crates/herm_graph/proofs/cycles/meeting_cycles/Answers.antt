use Rattle.std.proofs.Common.{◌↔◌, sym, subst, ℕ, IsTrue}
use Rattle.herm_model.specs.Types.{TypeTable}
use Rattle.herm_types.specs.Table.{says}
use Rattle.herm_graph.specs.Met.{MeetsGoal, SayCycles}
use Rattle.herm_graph.proofs.UnknownNames.{cycle-met}
use Rattle.herm_graph.proofs.cycles.meeting_cycles.Goals as goal

pub returns : goal.returns
returns c table e =
    let met = subst (λ (shapes : TypeTable). (t : ℕ) → IsTrue (says c.in_ok-meets.meets.items t) ↔ MeetsGoal shapes c.args.cycles.now t) (sym e) c.in_ok-meets.ensures in
    cycle-met table c.args.cycles.now c.in_ok-meets.meets.items (subst (λ (shapes : TypeTable). SayCycles shapes c.args.cycles.now) (sym e) c.requires.cycles) met
