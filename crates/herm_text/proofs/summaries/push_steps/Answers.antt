use Rattle.std.proofs.Common.{◌∙◌, codes}
use Rattle.herm_journal.specs.EntryTexts.{and_number}
use Rattle.herm_text.proofs.Lines.{line_of_two}
use Rattle.herm_text.proofs.summaries.push_steps.Goals as goal

pub returns : goal.returns
returns c =
    c.in_ok-push.ensures.items
    ∙ line_of_two _ _ _ (codes "summary: steps") (and_number c.args.counts.now.steps) (codes " actions") (and_number c.args.counts.now.actions) c.in_ok-push_named.ensures c.in_ok-push_named-2.ensures
