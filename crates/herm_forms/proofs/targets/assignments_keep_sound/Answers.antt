use Rattle.herm_forms.proofs.forms.SetTargets.{assignments-keep}
use Rattle.herm_forms.proofs.targets.assignments_keep_sound.Goals as goal

pub returns : goal.returns
returns c = record { assignments = assignments-keep }
