use Rattle.herm_runs.specs.Joining.{ArePaired, turned}
use Rattle.herm_runs.proofs.joined.Turned.{joined-turned}
use Rattle.herm_runs.proofs.joined.DiariesJoined.{diaries-together}
use Rattle.herm_runs.proofs.joining.joined_machines_have_the_same_diaries.Goals as goal

pub returns : goal.returns
returns g c = record {
  forth = λ a b left right j. diaries-together a b (ArePaired left right) j;
  back = λ a b left right j. diaries-together b a (turned (ArePaired left right)) (joined-turned a b (ArePaired left right) j);
}
