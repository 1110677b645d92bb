use Rattle.herm_runs.specs.examples.Countdowns.{as_named, counting_down, counting_up, CountTheSame}
use Rattle.herm_runs.specs.Joining.{turned}
use Rattle.herm_runs.proofs.joined.CountdownsJoined.{counts-joined}
use Rattle.herm_runs.proofs.joined.CountdownsKeep.{down-keeps, up-keeps}
use Rattle.herm_runs.proofs.joined.Turned.{joined-turned}
use Rattle.herm_runs.proofs.joined.RunsTogether.{runs-together}
use Rattle.herm_runs.proofs.joining.countdowns_run_together.Goals as goal

pub returns : goal.returns
returns c = record { down = runs-together (counting_down as_named) (counting_up as_named) CountTheSame (counts-joined as_named) down-keeps; up = runs-together (counting_up as_named) (counting_down as_named) (turned CountTheSame) (joined-turned (counting_down as_named) (counting_up as_named) CountTheSame (counts-joined as_named)) up-keeps }
