use Rattle.herm_coerce.proofs.Dropping.{edges-drop, beginnings-drop}
use Rattle.herm_coerce.proofs.laws.edges_drop_coercions.Goals as goal

pub returns-clause-edges : goal.returns-clause-edges
returns-clause-edges c = edges-drop

pub returns-clause-entry : goal.returns-clause-entry
returns-clause-entry c = beginnings-drop
