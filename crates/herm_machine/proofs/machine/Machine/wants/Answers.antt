use Rattle.std.proofs.Common.{sym, subst}
use Rattle.herm_machine.specs.Machines.{IsAt, code_of}
use Rattle.herm_machine.proofs.Ports.{some-want}
use Rattle.herm_machine.proofs.Standing.{inside-at, told-want}
use Rattle.herm_machine.proofs.machine.Machine.wants.Goals as goal

pub returns-in-None-clause-wanted : goal.returns-in-None-clause-wanted
returns-in-None-clause-wanted c = λ image main s at.
    let f = c.self.invariant.1 c.if-self.false c.in-None.is in
    inside-at image main _ s c.in-None.is (subst (λ m. IsAt image main m s) (sym c.self.view_is) at) (λ h. told-want image main _ s c.self.inside.coming.want h.sound (λ w e. f.want s w h.stands e) (λ e. f.nothing s h.stands e))

pub returns-in-None-clause-there : goal.returns-in-None-clause-there
returns-in-None-clause-there c = λ image main s w at e.
    let f = c.self.invariant.1 c.if-self.false c.in-None.is in
    inside-at image main _ s c.in-None.is (subst (λ m. IsAt image main m s) (sym c.self.view_is) at)
    (λ h. some-want image main _ s c.self.inside.coming.want w h.sound e (told-want image main _ s c.self.inside.coming.want h.sound (λ w e. f.want s w h.stands e) (λ e. f.nothing s h.stands e)))
