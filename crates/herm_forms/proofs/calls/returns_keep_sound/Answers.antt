use Rattle.herm_forms.proofs.called.Returns.{returns-keep}
use Rattle.herm_forms.proofs.calls.returns_keep_sound.Goals as goal

pub returns : goal.returns
returns c = record { returns = returns-keep }
