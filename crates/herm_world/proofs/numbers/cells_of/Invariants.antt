use Rattle.std.proofs.Common.{◌≡◌, ◌++◌, drop, map}
use Rattle.herm_world.specs.Reported.{reply_cells}
use Rattle.herm_world.proofs.numbers.cells_of.Given as goal

-- what there is so far, with the rest, is the whole
abbrev pub invariant-loop-reply : goal.invariant-loop-reply
invariant-loop-reply l = l.cells.items ++ map reply_cells (drop l.reply-index l.replies) ≡ map reply_cells l.replies
