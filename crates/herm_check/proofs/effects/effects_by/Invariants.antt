use Rattle.herm_check.specs.Effects.{IsEffectOf}
use Rattle.herm_check.proofs.Making.{AreEach}
use Rattle.herm_check.proofs.effects.effects_by.Given as goal

abbrev pub invariant-loop-edge : goal.invariant-loop-edge
invariant-loop-edge l = AreEach (IsEffectOf l.made l.gone) l.edges l.effects.items l.edge-index
