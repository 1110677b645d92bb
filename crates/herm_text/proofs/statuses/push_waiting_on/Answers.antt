use Rattle.std.proofs.Common.{◌∙◌, codes, flat_map, map}
use Rattle.herm_base.specs.declared.numbers.PortNo.{PortNo}
use Rattle.herm_journal.specs.EntryTexts.{and_number}
use Rattle.herm_text.proofs.Lines.{line_of_one}
use Rattle.herm_text.proofs.statuses.push_waiting_on.Goals as goal

pub returns : goal.returns
returns c =
    c.in_ok-push.ensures.items
    ∙ line_of_one _ _ _ (codes "hermes: process 1 waits on port") (flat_map and_number (map (λ (p : PortNo). p.number) c.args.ports.now)) c.in_ok-extend_from_slice.ensures.items c.in_ok-push_ports.ensures
