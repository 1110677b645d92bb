use Rattle.herm_forms.proofs.Arrived.{edges-exact}
use Rattle.herm_forms.proofs.arrival.edges_leave_what_is_held.Goals as goal

pub returns : goal.returns
returns c = record { exact = edges-exact }
