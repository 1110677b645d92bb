use Rattle.std.proofs.Common.{◌≡◌, ◌++◌, suc, List, drop, flat_map}
use Rattle.herm_model.specs.Lists.{numbered}
use Rattle.herm_journal.specs.Entries.{Text}
use Rattle.herm_system.specs.Statuses.{spent_line}
use Rattle.herm_system.specs.TextLines.{first_line}
use Rattle.herm_report.specs.View.{proc_ends_view}
use Rattle.herm_text.proofs.statuses.first_spent.Given as goal

-- none of those passed was stopped
abbrev pub invariant-loop-end : goal.invariant-loop-end
invariant-loop-end l =
    (l.process ≡ l.end-index)
    × ((rest : List Text) → first_line (flat_map spent_line (numbered (suc l.end-index) (proc_ends_view (drop l.end-index l.ends))) ++ rest) ≡ first_line (flat_map spent_line (numbered 1 (proc_ends_view l.ends)) ++ rest))
