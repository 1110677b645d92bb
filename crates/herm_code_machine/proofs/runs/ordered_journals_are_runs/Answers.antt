use Rattle.herm_code_machine.specs.Beside.{stack_kinds}
use Rattle.herm_code_machine.specs.CodeInstance.{code_machine}
use Rattle.herm_runs.proofs.order.OrderedRuns.{ordered-runs}
use Rattle.herm_code_machine.proofs.instance.CodeLaws.{code-keeps-numbers, code-knows-places}
use Rattle.herm_code_machine.proofs.runs.ordered_journals_are_runs.Goals as goal

pub returns : goal.returns
returns c = record { runs = λ image. ordered-runs (code_machine image) stack_kinds (code-keeps-numbers image) (code-knows-places image) }
