use Rattle.herm_meaning.proofs.Unique.{one-list}
use Rattle.herm_meaning.proofs.one_list_of_faults.Goals as goal

pub returns : goal.returns
returns c = record { one = one-list }
