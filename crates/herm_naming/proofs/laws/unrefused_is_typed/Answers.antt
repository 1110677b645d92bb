use Rattle.herm_naming.proofs.Unrefused.{unrefused-typed}
use Rattle.herm_naming.proofs.laws.unrefused_is_typed.Goals as goal

pub returns : goal.returns
returns c = record { typed = λ known modules places w p h. unrefused-typed known modules places 0 w p h }
