use Rattle.herm_readers.proofs.Nesting.{finds_too_deep, finds_within}
use Rattle.herm_readers.proofs.finds_too_deep.Goals as goal

pub returns : goal.returns
returns g c = record { deep = finds_too_deep g.row.S.Denot; within = finds_within g.row.S.Denot }
