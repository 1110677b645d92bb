use Rattle.herm_translated.proofs.LabelsStand.{blocks-are_labelled}
use Rattle.herm_translated.proofs.layout.blocks_are_labelled.Goals as goal

pub returns : goal.returns
returns c = blocks-are_labelled
