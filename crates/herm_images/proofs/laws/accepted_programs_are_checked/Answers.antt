use Rattle.herm_images.proofs.AcceptedModules.{accepted-checked}
use Rattle.herm_images.proofs.laws.accepted_programs_are_checked.Goals as goal

pub returns : goal.returns
returns c = accepted-checked
