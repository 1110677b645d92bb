use Rattle.std.proofs.Common.{◌≡◌}
use Rattle.herm_gather.specs.Diaries.{diaries_view}
use Rattle.herm_world.specs.Reported.{all_entries}
use Rattle.herm_world.proofs.reports.diaries_of.Given as goal

abbrev pub invariant-loop-process : goal.invariant-loop-process
invariant-loop-process l = diaries_view l.diaries.items ≡ all_entries l.yielded
