use Rattle.herm_code_machine.proofs.sound.ItemSteps.{answers-sound}
use Rattle.herm_code_machine.proofs.good_images.answers_are_sound.Goals as goal

pub returns : goal.returns
returns c = record { answers = answers-sound }
