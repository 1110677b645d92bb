use Rattle.herm_forms.proofs.forms.VisitedRows.{rows-visited}
use Rattle.herm_forms.proofs.components.rows_are_visited_soundly.Goals as goal

pub returns : goal.returns
returns c = record { rows = rows-visited }
