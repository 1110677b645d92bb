use Rattle.herm_code_machine.proofs.Standing.{popped-as-pushed}
use Rattle.herm_code_machine.proofs.pieces.values_are_popped_as_pushed.Goals as goal

pub returns : goal.returns
returns c = record { popped = popped-as-pushed }
