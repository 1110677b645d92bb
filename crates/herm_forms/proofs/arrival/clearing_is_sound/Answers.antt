use Rattle.herm_forms.proofs.SetValues.{clearing-sound}
use Rattle.herm_forms.proofs.arrival.clearing_is_sound.Goals as goal

pub returns : goal.returns
returns c = record { clear = clearing-sound }
