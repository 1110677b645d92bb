use Rattle.herm_forms.proofs.forms.RemovedRows.{rows-found}
use Rattle.herm_forms.proofs.components.rows_are_found_soundly.Goals as goal

pub returns : goal.returns
returns c = record { rows = rows-found }
