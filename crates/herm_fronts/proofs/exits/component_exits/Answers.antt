use Rattle.std.proofs.Common.{◌++◌, ◌∷◌, [], ap₂, ◌∙◌}
use Rattle.herm_model.specs.Outcomes.{component}
use Rattle.herm_fronts.specs.Blocks.{exits_view}
use Rattle.herm_fronts.proofs.Ranged.{ranged}
use Rattle.herm_fronts.proofs.exits.component_exits.Goals as goal

pub components-preserved : goal.components-preserved
components-preserved c =
    c.in_ok-push.ensures.items
    ∙ (ap₂ (λ xs y. xs ++ y ∷ []) c.components.invariant (c.place_at-at.ensures ∙ c.in_ok-firsts.ensures.firsts c.components.c c.components-test.true)
    ∙ ranged (λ k. exits_view c.args.exits.now (component k)) c.components.c)
