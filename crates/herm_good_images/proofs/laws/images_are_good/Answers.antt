use Rattle.herm_good_images.proofs.ImagesGood.{images-good, mains-begin}
use Rattle.herm_good_images.proofs.laws.images_are_good.Goals as goal

pub returns : goal.returns
returns c = record { good = images-good; begins = mains-begin }
