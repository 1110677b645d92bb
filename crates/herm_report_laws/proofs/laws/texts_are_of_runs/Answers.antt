use Rattle.herm_report_laws.proofs.Texts.{texts_theirs}
use Rattle.herm_report_laws.proofs.laws.texts_are_of_runs.Goals as goal

pub returns : goal.returns
returns c = record { texts = texts_theirs }
