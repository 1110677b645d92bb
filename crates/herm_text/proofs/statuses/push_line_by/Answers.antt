use Rattle.std.proofs.Common.{[], ◌∷◌, ◌++◌, map, flat_map, Some, sym, ap, ◌∙◌}
use Rattle.herm_model.specs.Lists.{numbered}
use Rattle.herm_base.specs.declared.numbers.PortNo.{PortNo}
use Rattle.herm_system.specs.Statuses.{status_line_by, spent_line, waiting_line}
use Rattle.herm_system.specs.TextLines.{first_line}
use Rattle.herm_report.specs.View.{proc_end_view, proc_ends_view}
use Rattle.herm_text.proofs.statuses.push_line_by.Goals as goal

pub returns-in_ok-push_spent_or_waiting-in-Waiting : goal.returns-in_ok-push_spent_or_waiting-in-Waiting
returns-in_ok-push_spent_or_waiting-in-Waiting c =
    c.in_ok-push_spent_or_waiting-in-Waiting.ensures
    ∙ ap (λ ports. c.args.out.now.items ++ first_line (flat_map spent_line (numbered 1 (proc_ends_view c.args.ends.now)) ++ waiting_line (map (λ (p : PortNo). p.number) ports) ∷ [])) c.as_slice.ensures.value
    ∙ ap (λ e. c.args.out.now.items ++ status_line_by c.args.names.now (Some (proc_end_view e)) (proc_ends_view c.args.ends.now)) (sym c.in-Waiting.is)
