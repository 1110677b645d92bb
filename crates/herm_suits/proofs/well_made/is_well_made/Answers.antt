use Rattle.std.proofs.Common.{sym}
use Rattle.herm_suits.proofs.Made.{whole-made}
use Rattle.herm_suits.proofs.well_made.is_well_made.Goals as goal

pub returns : goal.returns
returns c = record { exactly = sym (whole-made c.args.value.now c.requires.whole) }
