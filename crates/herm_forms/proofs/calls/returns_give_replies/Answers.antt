use Rattle.herm_forms.proofs.called.GivenReplies.{returns-give}
use Rattle.herm_forms.proofs.calls.returns_give_replies.Goals as goal

pub returns : goal.returns
returns c = record { replies = returns-give }
