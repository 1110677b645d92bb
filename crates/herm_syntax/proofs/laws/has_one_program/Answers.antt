use Rattle.herm_syntax.proofs.Numbers.{one_program}
use Rattle.herm_syntax.proofs.laws.has_one_program.Goals as goal

pub returns : goal.returns
returns c = record { one = one_program }
