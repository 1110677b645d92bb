use Rattle.herm_runs.specs.Joining.{ArePaired, turned}
use Rattle.herm_runs.proofs.joined.Turned.{joined-turned}
use Rattle.herm_runs.proofs.joined.RunsTogether.{runs-together}
use Rattle.herm_runs.proofs.joined.RunsFollow.{runs-follow}
use Rattle.herm_runs.proofs.joined.RoundsFollow.{rounds-follow}
use Rattle.herm_runs.proofs.joining.joined_machines_run_together.Goals as goal

pub returns : goal.returns
returns g c = record {
  forth = λ a b left right j keeps. runs-together a b (ArePaired left right) j keeps;
  back = λ a b left right j keeps. runs-together b a (turned (ArePaired left right)) (joined-turned a b (ArePaired left right) j) keeps;
  follow = λ a b left right j keeps. runs-follow a b (ArePaired left right) j keeps;
  rounds = λ a b left right j keeps. rounds-follow a b (ArePaired left right) j keeps;
}
