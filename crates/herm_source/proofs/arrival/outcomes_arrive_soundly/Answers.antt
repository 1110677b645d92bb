use Rattle.herm_source.proofs.OutcomesArrive.{outcomes-arrive}
use Rattle.herm_source.proofs.arrival.outcomes_arrive_soundly.Goals as goal

pub returns : goal.returns
returns c = record { arrive = outcomes-arrive }
