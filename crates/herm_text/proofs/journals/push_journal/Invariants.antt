use Rattle.std.proofs.Common.{◌≡◌, ◌++◌, map, drop}
use Rattle.herm_system.specs.RunTexts.{journal_text}
use Rattle.herm_events.specs.View.{entries_view}
use Rattle.herm_text.proofs.journals.push_journal.Given as goal

-- what is written so far, joined with the rest, is the whole
abbrev pub invariant-loop-entry : goal.invariant-loop-entry
invariant-loop-entry l = l.out.items ++ journal_text l.names (entries_view (map (λ e. e.now) (drop l.entry-index l.entries))) ≡ l.fn.out.items ++ journal_text l.names (entries_view (map (λ e. e.now) l.entries))
