use Rattle.herm_forms.proofs.evaluated.AssignedExpressions.{typed-values}
use Rattle.herm_forms.proofs.expressions.typed_expressions_have_values.Goals as goal

pub returns : goal.returns
returns start = record { values = typed-values }
