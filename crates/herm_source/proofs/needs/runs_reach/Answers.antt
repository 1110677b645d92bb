use Rattle.herm_source.proofs.reached.RunsReach.{runs-reach}
use Rattle.herm_source.proofs.needs.runs_reach.Goals as goal

pub returns : goal.returns
returns c = record { reach = runs-reach }
