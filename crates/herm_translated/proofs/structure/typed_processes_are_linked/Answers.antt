use Rattle.herm_translated.proofs.LinkedProcess.{typed-linked, typed-structured}
use Rattle.herm_translated.proofs.structure.typed_processes_are_linked.Goals as goal

pub returns : goal.returns
returns c = record { linked = typed-linked; structured = typed-structured }
