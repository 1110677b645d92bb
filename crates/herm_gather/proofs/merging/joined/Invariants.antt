use Rattle.std.proofs.Common.{◌≡◌}
use Rattle.herm_events.specs.View.{entries_view}
use Rattle.herm_gather.specs.Diaries.{diaries_view}
use Rattle.herm_gather.proofs.merging.joined.Given as goal

abbrev pub invariant-loop-diary : goal.invariant-loop-diary
invariant-loop-diary l = entries_view l.entries.items ≡ diaries_view l.yielded
