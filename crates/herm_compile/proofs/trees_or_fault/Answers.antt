use Rattle.herm_compile.proofs.PhaseLaws.{trees_or_fault as excluded}
use Rattle.herm_compile.proofs.trees_or_fault.Goals as goal

pub returns : goal.returns
returns c = λ bytes fault trees has. excluded bytes fault trees has
