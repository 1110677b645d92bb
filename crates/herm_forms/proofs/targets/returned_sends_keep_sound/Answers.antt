use Rattle.herm_forms.proofs.forms.SentMessages.{returned-sends}
use Rattle.herm_forms.proofs.targets.returned_sends_keep_sound.Goals as goal

pub returns : goal.returns
returns c = record { returned = returned-sends }
