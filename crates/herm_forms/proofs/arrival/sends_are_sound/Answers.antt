use Rattle.herm_forms.proofs.forms.Messages.{sends-sound}
use Rattle.herm_forms.proofs.arrival.sends_are_sound.Goals as goal

pub returns : goal.returns
returns c = record { sends = sends-sound }
