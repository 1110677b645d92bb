use Rattle.herm_readers.proofs.Consequences.{fault_at, no_tree}
use Rattle.herm_readers.proofs.has_fault_at.Goals as goal

pub returns : goal.returns
returns g c = record { at = fault_at g.row.S.Denot g.row.A.Denot; none = no_tree g.row.S.Denot g.row.A.Denot }
