use Rattle.herm_simulation.proofs.RightChecks.{excess-is-right}
use Rattle.herm_simulation.proofs.checks.checks_by_excess_are_right.Goals as goal

pub returns : goal.returns
returns c = record { checks = excess-is-right }
