use Rattle.herm_syntax.proofs.Uniqueness.{one_file}
use Rattle.herm_syntax.proofs.laws.has_one_file.Goals as goal

pub returns : goal.returns
returns c = record { one = one_file }
