use Rattle.std.proofs.Common.{sym, ap, subst, ◌∙◌}
use Rattle.herm_code_machine.specs.CodeSteps.{code_next}
use Rattle.herm_steps.specs.Coming.{begins_with_step, coming}
use Rattle.herm_machine.specs.Machines.{MachineState, StandsFor, code_of, end_of}
use Rattle.herm_machine.proofs.Ports.{some-want}
use Rattle.herm_machine.proofs.Standing.{told-want}
use Rattle.herm_machine.proofs.machine.Machine.coming.Goals as goal

pub returns-clause-end : goal.returns-clause-end
returns-clause-end c = λ image main s at.
    let h = subst (λ m. StandsFor image main m s) (sym c.self.view_is) at in (c.self.invariant.1 h.alive h.inside).end s h.stands ∙ ap (λ m. end_of (code_of m) s) c.self.view_is

pub returns-clause-step : goal.returns-clause-step
returns-clause-step c = λ image main s at.
    let h = subst (λ m. StandsFor image main m s) (sym c.self.view_is) at in (c.self.invariant.1 h.alive h.inside).step s h.stands ∙ ap (λ (m : MachineState). begins_with_step (coming (code_next (code_of m) s))) c.self.view_is

pub returns-clause-wanted : goal.returns-clause-wanted
returns-clause-wanted c = λ image main s at.
    let h = subst (λ m. StandsFor image main m s) (sym c.self.view_is) at in let f = c.self.invariant.1 h.alive h.inside in told-want image main _ s c.self.inside.coming.want h.sound (λ w e. f.want s w h.stands e) (λ e. f.nothing s h.stands e)

pub returns-clause-there : goal.returns-clause-there
returns-clause-there c = λ image main s w at e.
    let h = subst (λ m. StandsFor image main m s) (sym c.self.view_is) at in
    let f = c.self.invariant.1 h.alive h.inside in
    some-want image main _ s c.self.inside.coming.want w h.sound e (told-want image main _ s c.self.inside.coming.want h.sound (λ w e. f.want s w h.stands e) (λ e. f.nothing s h.stands e))
