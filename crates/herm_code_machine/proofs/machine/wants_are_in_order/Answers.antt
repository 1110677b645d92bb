use Rattle.herm_code_machine.proofs.OrderedWants.{wants-ordered}
use Rattle.herm_code_machine.proofs.machine.wants_are_in_order.Goals as goal

pub returns : goal.returns
returns c = record { wants = wants-ordered }
