use Rattle.herm_translated.proofs.NamedIndices.{complete-listed}
use Rattle.herm_translated.proofs.structure.complete_blocks_are_listed.Goals as goal

pub returns : goal.returns
returns c = complete-listed
