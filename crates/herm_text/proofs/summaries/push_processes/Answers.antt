use Rattle.std.proofs.Common.{◌∙◌, codes}
use Rattle.herm_journal.specs.EntryTexts.{and_number}
use Rattle.herm_text.proofs.Lines.{line_of_four}
use Rattle.herm_text.proofs.summaries.push_processes.Goals as goal

pub returns : goal.returns
returns c =
    c.in_ok-push.ensures.items
    ∙ line_of_four _ _ _ _ _ (codes "summary: processes") (and_number c.args.counts.now.processes) (codes " ended") (and_number c.args.counts.now.ended) (codes " waiting") (and_number c.args.counts.now.waiting) (codes " stopped") (and_number c.args.counts.now.stopped) c.in_ok-push_named.ensures
    c.in_ok-push_named-2.ensures c.in_ok-push_named-3.ensures c.in_ok-push_named-4.ensures
