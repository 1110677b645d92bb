use Rattle.std.proofs.Common.{refl}
use Rattle.herm_naming.proofs.laws.examples_are_judged.Goals as goal

pub returns : goal.returns
returns c = record { right_values = refl; wrong_values = refl; right_forms = refl; wrong_forms = refl; keys_and_calls = refl; blocks = refl }
