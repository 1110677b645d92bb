use Rattle.herm_forms.proofs.forms.SentMessages.{sent-messages}
use Rattle.herm_forms.proofs.targets.sent_are_messages.Goals as goal

pub returns : goal.returns
returns c = record { messages = sent-messages }
