use Rattle.herm_good_images.proofs.ModulesExist.{modules-exist}
use Rattle.herm_good_images.proofs.laws.checked_programs_have_modules.Goals as goal

pub returns : goal.returns
returns c = modules-exist
