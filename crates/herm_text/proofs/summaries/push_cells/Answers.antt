use Rattle.std.proofs.Common.{◌∙◌, codes}
use Rattle.herm_journal.specs.EntryTexts.{and_number}
use Rattle.herm_text.proofs.Lines.{line_of_four}
use Rattle.herm_text.proofs.summaries.push_cells.Goals as goal

pub returns : goal.returns
returns c =
    c.in_ok-push.ensures.items
    ∙ line_of_four _ _ _ _ _ (codes "summary: cells made") (and_number c.args.counts.now.made) (codes " held") (and_number c.args.counts.now.held) (codes " queued") (and_number c.args.counts.now.queued) (codes " finalised") (and_number c.args.counts.now.finalised) c.in_ok-push_named.ensures
    c.in_ok-push_named-2.ensures c.in_ok-push_named-3.ensures c.in_ok-push_named-4.ensures
