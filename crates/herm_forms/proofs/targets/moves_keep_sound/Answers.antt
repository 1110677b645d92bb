use Rattle.herm_forms.proofs.forms.MovesToTargets.{moves-keep}
use Rattle.herm_forms.proofs.targets.moves_keep_sound.Goals as goal

pub returns : goal.returns
returns c = record { moves = moves-keep }
