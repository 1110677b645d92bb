use Rattle.herm_forms.proofs.forms.ReceivesToTargets.{receives-keep}
use Rattle.herm_forms.proofs.targets.receives_keep_sound.Goals as goal

pub returns : goal.returns
returns c = record { receives = receives-keep }
