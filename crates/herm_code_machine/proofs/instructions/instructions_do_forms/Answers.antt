use Rattle.herm_code_machine.proofs.DoneForms.{instructions-do-forms}
use Rattle.herm_code_machine.proofs.instructions.instructions_do_forms.Goals as goal

pub returns : goal.returns
returns c = record { forms = instructions-do-forms }
