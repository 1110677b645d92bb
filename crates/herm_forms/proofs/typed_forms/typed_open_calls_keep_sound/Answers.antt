use Rattle.herm_forms.proofs.typed.CallForms.{open-calls}
use Rattle.herm_forms.proofs.typed_forms.typed_open_calls_keep_sound.Goals as goal

pub returns : goal.returns
returns c = record { calls = open-calls }
