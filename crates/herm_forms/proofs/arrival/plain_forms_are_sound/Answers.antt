use Rattle.herm_forms.proofs.forms.PlainForms.{plain-forms-sound}
use Rattle.herm_forms.proofs.arrival.plain_forms_are_sound.Goals as goal

pub returns : goal.returns
returns c = record { forms = plain-forms-sound }
