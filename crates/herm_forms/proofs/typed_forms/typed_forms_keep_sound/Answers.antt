use Rattle.herm_forms.proofs.typed.FormsSound.{forms-sound}
use Rattle.herm_forms.proofs.typed_forms.typed_forms_keep_sound.Goals as goal

pub returns : goal.returns
returns c = record { forms = forms-sound }
