use Rattle.std.proofs.Common.{sym, ap, subst, ◌∙◌}
use Rattle.herm_system.specs.Summary.{cut}
use Rattle.herm_frames.specs.Standing.{Stands}
use Rattle.herm_steps.specs.StandingAt.{StandsAt}
use Rattle.herm_machine.proofs.Standing.{held-cells}
use Rattle.herm_machine.proofs.machine.Machine.cells.Goals as goal

pub returns-clause-held : goal.returns-clause-held
returns-clause-held c = λ image main s h. c.counted_cells.ensures.held s (subst (λ m. StandsAt m.held s) (sym c.self.view_is) h.stands) ∙ ap cut (sym (held-cells image main _ s h.sound))

pub returns-clause-left : goal.returns-clause-left
returns-clause-left c = λ b h. c.counted_cells.ensures.left b (subst (λ m. Stands m.held.frame b) (sym c.self.view_is) h)
