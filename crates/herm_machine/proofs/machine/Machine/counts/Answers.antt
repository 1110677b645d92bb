use Rattle.std.proofs.Common.{sym, ap, subst, ◌∙◌}
use Rattle.herm_code_machine.specs.CodeSteps.{code_next}
use Rattle.herm_steps.specs.Coming.{coming}
use Rattle.herm_steps.specs.StandingAt.{StandsAt}
use Rattle.herm_machine.specs.Machines.{HasOut, MachineState, code_of, counted_out}
use Rattle.herm_machine.proofs.CountedOut.{out-counts}
use Rattle.herm_machine.proofs.machine.Machine.counts.Goals as goal

pub returns-clause-out : goal.returns-clause-out
returns-clause-out c = λ image main s h.
    let n = out-counts image main _ s (subst (λ m. HasOut image main m s) (sym c.self.view_is) h) in (
      c.counted.ensures.counts.0 ∙ n.steps ∙ ap (λ (m : MachineState). (counted_out m.is_front (coming (code_next (code_of m) s)) s.frame).steps) c.self.view_is,
      c.counted.ensures.counts.1 ∙ n.actions ∙ ap (λ (m : MachineState). (counted_out m.is_front (coming (code_next (code_of m) s)) s.frame).actions) c.self.view_is,
    )

pub returns-clause-counts : goal.returns-clause-counts
returns-clause-counts c = λ image main s h.
    let at = (subst (λ m. StandsAt m.held s) (sym c.self.view_is) h.stands).frame in
    (c.counted.ensures.counts.0 ∙ sym at.steps, c.counted.ensures.counts.1 ∙ sym at.actions)

pub returns-clause-held : goal.returns-clause-held
returns-clause-held c =
    (c.counted.ensures.counts.0 ∙ ap (λ (m : MachineState). m.held.frame.steps) c.self.view_is, c.counted.ensures.counts.1 ∙ ap (λ (m : MachineState). m.held.frame.actions) c.self.view_is)
