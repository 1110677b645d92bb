use Rattle.herm_forms.proofs.forms.SetTargets.{new-values-keep}
use Rattle.herm_forms.proofs.targets.new_values_keep_sound.Goals as goal

pub returns : goal.returns
returns c = record { values = new-values-keep }
