use Rattle.std.proofs.Common.{map, ap, ap₂, ◌++◌, ◌∙◌}
use Rattle.herm_model.specs.Outcomes.{raised}
use Rattle.herm_typed.specs.declared.statements.TypedStmt.{out-TypedStmt}
use Rattle.herm_typed.proofs.SeenArms.{all_outcomes, map_raised}
use Rattle.herm_typed.proofs.outcome_list.outcomes.Goals as goal

pub returns : goal.returns
returns g c =
    c.in_ok-add_raised.ensures
    ∙ (ap₂ (λ a b. a ++ b) c.in_ok-found.ensures (ap (map (λ n. raised n.0)) c.as_slice.ensures.value ∙ (map_raised c.in_ok-raised.raised.items ∙ ap (map raised) c.in_ok-raised.ensures))
    ∙ all_outcomes c.args.types.now.shapes g.variables (out-TypedStmt c.args.s.now).form)
