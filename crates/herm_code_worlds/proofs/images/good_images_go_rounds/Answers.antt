use Rattle.herm_code_worlds.proofs.ImageWorlds.{wakes-few, goes-rounds}
use Rattle.herm_code_worlds.proofs.images.good_images_go_rounds.Goals as goal

pub returns : goal.returns
returns c = record { waking = wakes-few; rounds = goes-rounds }
