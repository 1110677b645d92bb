use Rattle.herm_code_machine.proofs.sound.Processes.{operands-found}
use Rattle.herm_code_machine.proofs.good_images.instructions_find_operands.Goals as goal

pub returns : goal.returns
returns c = record { found = operands-found }
