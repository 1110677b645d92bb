use Rattle.herm_translated.proofs.StructureKept.{linked-structured}
use Rattle.herm_translated.proofs.structure.linked_blocks_are_structured.Goals as goal

pub returns : goal.returns
returns c = linked-structured
