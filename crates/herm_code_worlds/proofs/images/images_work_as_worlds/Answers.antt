use Rattle.herm_code_worlds.proofs.WorldWorks.{works-as-world}
use Rattle.herm_code_worlds.proofs.images.images_work_as_worlds.Goals as goal

pub returns : goal.returns
returns c = record { works = works-as-world }
