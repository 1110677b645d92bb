use Rattle.herm_translated.proofs.ConstantsOnce.{images-have_constants}
use Rattle.herm_translated.proofs.constants.images_have_their_constants.Goals as goal

pub returns : goal.returns
returns c = record { constants = images-have_constants }
