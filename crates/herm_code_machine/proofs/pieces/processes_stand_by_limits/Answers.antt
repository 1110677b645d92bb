use Rattle.herm_code_machine.proofs.ReadyProcesses.{processes-stand_so}
use Rattle.herm_code_machine.proofs.pieces.processes_stand_by_limits.Goals as goal

pub returns : goal.returns
returns c = record { stands = processes-stand_so }
