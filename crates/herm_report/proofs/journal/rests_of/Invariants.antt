use Rattle.std.proofs.Common.{◌≡◌, map, take}
use Rattle.herm_report.specs.Turns.{items_of}
use Rattle.herm_report.proofs.journal.rests_of.Given as goal

abbrev pub invariant-lists : goal.invariant-lists
invariant-lists l = map (λ e. e.now) l.rests.items ≡ items_of (take l.list-index l.lists)
