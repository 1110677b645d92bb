use Rattle.herm_forms.proofs.Arrivals.{edges-arrive}
use Rattle.herm_forms.proofs.arrival.edges_arrive_soundly.Goals as goal

pub returns : goal.returns
returns c = record { arrive = edges-arrive }
