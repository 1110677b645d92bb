use Rattle.herm_forms.proofs.evaluated.ExampleTyping.{example-typing}
use Rattle.herm_forms.proofs.expressions.expressions_are_typed_as_written.Goals as goal

pub returns : goal.returns
returns start = record { example = example-typing }
