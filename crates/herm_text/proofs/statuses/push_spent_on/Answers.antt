use Rattle.std.proofs.Common.{◌∙◌, codes}
use Rattle.herm_journal.specs.EntryTexts.{and_number}
use Rattle.herm_text.proofs.Lines.{line_of_three}
use Rattle.herm_text.proofs.statuses.push_spent_on.Goals as goal

pub returns : goal.returns
returns c =
    c.in_ok-push.ensures.items
    ∙ line_of_three _ _ _ _ (codes "hermes: process") (and_number c.args.process) (codes " spent") (and_number c.args.limit) c.args.what.now c.in_ok-push_named.ensures c.in_ok-push_named-2.ensures
    c.in_ok-extend_from_slice.ensures.items
