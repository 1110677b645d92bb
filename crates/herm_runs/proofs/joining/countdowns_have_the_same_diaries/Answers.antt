use Rattle.herm_runs.specs.examples.Countdowns.{counting_down, counting_up, CountTheSame}
use Rattle.herm_journal.specs.Renaming.{forget_name}
use Rattle.herm_runs.specs.Joining.{turned}
use Rattle.herm_runs.proofs.joined.CountdownsJoined.{counts-joined}
use Rattle.herm_runs.proofs.joined.Turned.{joined-turned}
use Rattle.herm_runs.proofs.joined.DiariesJoined.{diaries-together}
use Rattle.herm_runs.proofs.joining.countdowns_have_the_same_diaries.Goals as goal

pub returns : goal.returns
returns c = record { down = diaries-together (counting_down forget_name) (counting_up forget_name) CountTheSame (counts-joined forget_name); up = diaries-together (counting_up forget_name) (counting_down forget_name) (turned CountTheSame) (joined-turned (counting_down forget_name) (counting_up forget_name) CountTheSame (counts-joined forget_name)) }
