use Rattle.herm_images.proofs.ReportedImages.{reports-describe}
use Rattle.herm_images.proofs.laws.images_run_as_programs.Goals as goal

pub returns : goal.returns
returns c = reports-describe
