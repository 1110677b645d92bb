use Rattle.herm_instructions.proofs.KeysOnStack.{keys-are_typed}
use Rattle.herm_instructions.proofs.good_code.keys_are_typed.Goals as goal

pub returns : goal.returns
returns c = keys-are_typed
