use Rattle.herm_forms.proofs.evaluated.AssignedExpressions.{typed-assignments}
use Rattle.herm_forms.proofs.expressions.typed_assignments_keep_sound.Goals as goal

pub returns : goal.returns
returns start = record { assignments = typed-assignments }
