use Rattle.herm_translated.proofs.Addresses.{code-laid_out, edges-at_exits}
use Rattle.herm_translated.proofs.layout.blocks_are_in_order.Goals as goal

pub returns : goal.returns
returns c = record { blocks = code-laid_out; edges = edges-at_exits }
