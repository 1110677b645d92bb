use Rattle.herm_readers.proofs.Consequences.{one_tree}
use Rattle.herm_readers.proofs.has_one_tree.Goals as goal

pub returns : goal.returns
returns g c = record { one = one_tree g.row.S.Denot g.row.A.Denot }
