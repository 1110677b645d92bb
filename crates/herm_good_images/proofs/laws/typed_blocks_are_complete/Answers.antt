use Rattle.herm_good_images.proofs.blocks.BlocksReached.{blocks-complete}
use Rattle.herm_good_images.proofs.laws.typed_blocks_are_complete.Goals as goal

pub returns : goal.returns
returns c = blocks-complete
