use Rattle.herm_good_images.proofs.loops.EnteredSlots.{entered-at_heads, slots-kept}
use Rattle.herm_good_images.proofs.laws.loops_are_entered_at_their_heads.Goals as goal

pub returns : goal.returns
returns c = record { heads = entered-at_heads; slots = slots-kept }
