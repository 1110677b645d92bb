use Rattle.std.proofs.Common.{ap, map, ◌∙◌}
use Rattle.std.proofs.lemmas.List.{map-append}
use Rattle.herm_typed.specs.View.{outcome_view}
use Rattle.herm_typed.proofs.Numbered.{arms-next}
use Rattle.herm_typed.proofs.outcome_list.select_arms.Goals as goal

pub loop-i-preserved : goal.loop-i-preserved
loop-i-preserved c =
    ap (map outcome_view) c.in_ok-push.ensures.items
    ∙ (map-append outcome_view c.loop-i.found.items _
    ∙ arms-next (map outcome_view c.loop-i.found.items) c.loop-i.i c.loop-i.invariant)
