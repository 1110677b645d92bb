use Rattle.herm_code_machine.proofs.CodeLimits.{code-keeps-limits}
use Rattle.herm_code_machine.proofs.machine.limits_are_kept.Goals as goal

pub returns : goal.returns
returns c = record { limits = code-keeps-limits }
