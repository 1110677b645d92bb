use Rattle.std.proofs.Common.{refl}
use Rattle.herm_typestate.proofs.Marks.{no_marks}
use Rattle.herm_typestate.proofs.tree.nothing_known.Goals as goal

pub returns : goal.returns
returns c = no_marks _ refl c.new.ensures.items c.new-2.ensures.items
