use Rattle.herm_journal.proofs.Rising.{one-journal}
use Rattle.herm_journal.proofs.journals_are_known.Goals as goal

pub returns : goal.returns
returns c = record { one = one-journal }
