use Rattle.herm_runs.proofs.OneState.{one-action, one-state}
use Rattle.herm_runs.proofs.diaries.diaries_lead_to_one_state.Goals as goal

pub returns : goal.returns
returns g c = record { action = one-action; state = one-state }
