use Rattle.herm_forms.proofs.forms.InsertedRows.{rows-inserted}
use Rattle.herm_forms.proofs.components.rows_are_inserted_soundly.Goals as goal

pub returns : goal.returns
returns c = record { rows = rows-inserted }
