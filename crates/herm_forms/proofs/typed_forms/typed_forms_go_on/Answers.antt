use Rattle.herm_forms.proofs.typed.FormsGo.{forms-go}
use Rattle.herm_forms.proofs.typed_forms.typed_forms_go_on.Goals as goal

pub returns : goal.returns
returns c = record { forms = forms-go }
