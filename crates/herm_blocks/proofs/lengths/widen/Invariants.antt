use Rattle.std.proofs.Common.{◌≡◌, ◌+◌, ◌-◌, ℕ, length, get_or}
use Rattle.herm_blocks.proofs.lengths.widen.Given as goal

abbrev pub invariant-room : goal.invariant-room
invariant-room l = (i : ℕ) → get_or l.lengths.items i 0 ≡ get_or l.initial.lengths.items i 0

abbrev pub decreases-room : goal.decreases-room
decreases-room l = (l.number + 1) - length l.lengths.items
