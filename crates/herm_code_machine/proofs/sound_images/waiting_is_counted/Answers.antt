use Rattle.herm_code_machine.proofs.counted.CodeCounts.{keeps-waiting}
use Rattle.herm_code_machine.proofs.sound_images.waiting_is_counted.Goals as goal

pub returns : goal.returns
returns c = record { counts = keeps-waiting }
