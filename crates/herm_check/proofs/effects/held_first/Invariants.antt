use Rattle.std.proofs.Common.{map}
use Rattle.herm_model.specs.ControlPaths.{held_at_start}
use Rattle.herm_types.specs.View.{fact_view}
use Rattle.herm_check.proofs.Making.{ArePicked}
use Rattle.herm_check.proofs.effects.held_first.Given as goal

abbrev pub invariant-loop-number : goal.invariant-loop-number
invariant-loop-number l = ArePicked held_at_start (map fact_view l.facts) l.number l.held
