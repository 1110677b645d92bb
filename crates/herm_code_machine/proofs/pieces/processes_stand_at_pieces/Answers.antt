use Rattle.herm_code_machine.proofs.Standing.{stand-at-pieces}
use Rattle.herm_code_machine.proofs.pieces.processes_stand_at_pieces.Goals as goal

pub returns : goal.returns
returns c = record { stands = stand-at-pieces }
