use Rattle.herm_forms.proofs.typed.CallForms.{calls-are-messages}
use Rattle.herm_forms.proofs.calls.calls_are_messages.Goals as goal

pub returns : goal.returns
returns c = record { messages = calls-are-messages }
