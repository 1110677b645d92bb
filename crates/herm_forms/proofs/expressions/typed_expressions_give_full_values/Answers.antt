use Rattle.herm_forms.proofs.evaluated.AssignedExpressions.{typed-full}
use Rattle.herm_forms.proofs.expressions.typed_expressions_give_full_values.Goals as goal

pub returns : goal.returns
returns start = record { full = typed-full }
