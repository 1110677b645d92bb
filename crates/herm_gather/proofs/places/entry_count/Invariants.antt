use Rattle.std.proofs.Common.{◌≡◌, ◌-◌, ◌^◌, min, length, take}
use Rattle.herm_report.specs.Turns.{items_of}
use Rattle.herm_gather.specs.Diaries.{all_of}
use Rattle.herm_gather.proofs.places.entry_count.Given as goal

abbrev pub invariant-loop-diary : goal.invariant-loop-diary
invariant-loop-diary l = l.count ≡ min (length (all_of (items_of (take l.diary-index l.diaries)))) (2 ^ 64 - 1)
