use Rattle.herm_code_machine.proofs.ExpressionValues.{code-gives_values}
use Rattle.herm_code_machine.proofs.instructions.code_gives_values.Goals as goal

pub returns : goal.returns
returns c = record { values = code-gives_values }
