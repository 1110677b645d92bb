use Rattle.herm_forms.proofs.AsBefore.{exceptions-leave-all}
use Rattle.herm_forms.proofs.exceptions.exceptions_leave_all_as_it_was.Goals as goal

pub returns : goal.returns
returns c = record { as_before = exceptions-leave-all }
