use Rattle.std.proofs.Common.{◌∙◌, codes}
use Rattle.herm_journal.specs.EntryTexts.{name_in}
use Rattle.herm_text.proofs.Lines.{line_of_one}
use Rattle.herm_text.proofs.statuses.push_ended_by.Goals as goal

pub returns : goal.returns
returns c =
    c.in_ok-push.ensures.items
    ∙ line_of_one _ _ _ (codes "hermes: main ended by ") (name_in c.args.names.now c.args.exception.0) c.in_ok-extend_from_slice.ensures.items c.in_ok-push_name.ensures
