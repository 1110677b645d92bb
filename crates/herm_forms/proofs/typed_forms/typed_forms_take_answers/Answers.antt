use Rattle.herm_forms.proofs.typed.AnswersTaken.{forms-answer}
use Rattle.herm_forms.proofs.typed_forms.typed_forms_take_answers.Goals as goal

pub returns : goal.returns
returns c = record { forms = forms-answer }
