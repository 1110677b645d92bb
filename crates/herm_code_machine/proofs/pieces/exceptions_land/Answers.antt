use Rattle.herm_code_machine.proofs.Standing.{exceptions-land}
use Rattle.herm_code_machine.proofs.pieces.exceptions_land.Goals as goal

pub returns : goal.returns
returns c = record { lands = exceptions-land }
