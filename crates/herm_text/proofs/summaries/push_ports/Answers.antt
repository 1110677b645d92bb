use Rattle.std.proofs.Common.{◌∙◌, codes}
use Rattle.herm_journal.specs.EntryTexts.{and_number}
use Rattle.herm_text.proofs.Lines.{line_of_two}
use Rattle.herm_text.proofs.summaries.push_ports.Goals as goal

pub returns : goal.returns
returns c =
    c.in_ok-push.ensures.items
    ∙ line_of_two _ _ _ (codes "summary: ports") (and_number c.args.counts.now.ports) (codes " open") (and_number c.args.counts.now.unclosed) c.in_ok-push_named.ensures c.in_ok-push_named-2.ensures
