use Rattle.herm_simulation.proofs.Nameless.{diaries-back, diaries-forth}
use Rattle.herm_simulation.proofs.simulation.diaries_lead_alike.Goals as goal

pub returns : goal.returns
returns c = record { forth = diaries-forth; back = diaries-back }
