use Rattle.herm_model.proofs.InRange.{forms-in}
use Rattle.herm_model.proofs.typed_programs.typed_forms_are_in_range.Goals as goal

pub returns : goal.returns
returns c = forms-in
