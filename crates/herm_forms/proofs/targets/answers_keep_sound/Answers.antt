use Rattle.herm_forms.proofs.forms.AnswersToTargets.{answers-keep}
use Rattle.herm_forms.proofs.targets.answers_keep_sound.Goals as goal

pub returns : goal.returns
returns c = record { answers = answers-keep }
