use Rattle.herm_forms.proofs.called.OpenCalls.{calls-keep}
use Rattle.herm_forms.proofs.calls.calls_keep_sound.Goals as goal

pub returns : goal.returns
returns c = record { calls = calls-keep }
