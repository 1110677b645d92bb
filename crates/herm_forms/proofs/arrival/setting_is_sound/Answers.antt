use Rattle.herm_forms.proofs.SetValues.{setting-sound}
use Rattle.herm_forms.proofs.arrival.setting_is_sound.Goals as goal

pub returns : goal.returns
returns c = record { set = setting-sound }
