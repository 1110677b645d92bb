use Rattle.herm_code_machine.proofs.sound.StuckNowhere.{runs-find_operands}
use Rattle.herm_code_machine.proofs.good_images.runs_find_operands.Goals as goal

pub returns : goal.returns
returns c = record { found = runs-find_operands }
