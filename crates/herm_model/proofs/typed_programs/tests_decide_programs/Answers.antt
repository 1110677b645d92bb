use Rattle.herm_model.proofs.DecidedPrograms.{tests-processes, none-process, test-programs}
use Rattle.herm_model.proofs.typed_programs.tests_decide_programs.Goals as goal

pub returns : goal.returns
returns c = record { rules = tests-processes; process = none-process; program = test-programs }
