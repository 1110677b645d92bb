use Rattle.herm_forms.proofs.called.HeardReplies.{replies-keep}
use Rattle.herm_forms.proofs.calls.replies_keep_sound.Goals as goal

pub returns : goal.returns
returns c = record { replies = replies-keep }
