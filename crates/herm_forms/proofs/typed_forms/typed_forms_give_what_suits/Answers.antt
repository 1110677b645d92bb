use Rattle.herm_forms.proofs.typed.FormsSound.{forms-give}
use Rattle.herm_forms.proofs.typed_forms.typed_forms_give_what_suits.Goals as goal

pub returns : goal.returns
returns c = record { messages = forms-give }
