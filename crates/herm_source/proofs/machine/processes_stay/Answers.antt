use Rattle.herm_source.proofs.Numbers.{local-stays, answer-stays}
use Rattle.herm_source.proofs.machine.processes_stay.Goals as goal

pub returns : goal.returns
returns c = record { local_steps = local-stays; answers = answer-stays }
