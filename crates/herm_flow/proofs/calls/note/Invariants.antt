use Rattle.std.proofs.Common.{◌+◌, ◌-◌, length}
use Rattle.herm_flow.proofs.calls.note.Given as goal

abbrev pub decreases-more : goal.decreases-more
decreases-more l = l.point + 1 - length l.places.items
