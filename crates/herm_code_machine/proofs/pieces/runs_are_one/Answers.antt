use Rattle.herm_code_machine.proofs.Standing.{runs-are-one}
use Rattle.herm_code_machine.proofs.pieces.runs_are_one.Goals as goal

pub returns : goal.returns
returns c = record { one = runs-are-one }
