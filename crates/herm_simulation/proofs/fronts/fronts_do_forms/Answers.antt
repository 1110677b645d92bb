use Rattle.herm_simulation.proofs.DoneFronts.{fronts-do_forms}
use Rattle.herm_simulation.proofs.fronts.fronts_do_forms.Goals as goal

pub returns : goal.returns
returns c = record { fronts = fronts-do_forms }
