use Rattle.herm_images.proofs.ListedFacts.{held-listed}
use Rattle.herm_images.proofs.laws.held_facts_are_listed.Goals as goal

pub returns : goal.returns
returns c = held-listed
