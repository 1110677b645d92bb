use Rattle.herm_compile.proofs.OneAcceptanceLaws.{accepted_or_refused}
use Rattle.herm_compile.proofs.accepted_or_refused.Goals as goal

pub returns : goal.returns
returns c = λ files table processes main faults program accepted refused. accepted_or_refused files table processes main faults program accepted refused
