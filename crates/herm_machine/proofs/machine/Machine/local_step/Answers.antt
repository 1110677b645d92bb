use Rattle.std.proofs.Common.{◌≡◌, false, inl, refl, sym, ap, subst, ◌∙◌, true≢false}
use Rattle.std.specs.Prelude.{None}
use Rattle.herm_machine.specs.Machines.{IsAt, code_of, end_of}
use Rattle.herm_machine.proofs.Standing.{local-known, stepped}
use Rattle.herm_machine.proofs.machine.Machine.local_step.Goals as goal

pub known_step-requires-clause-known : goal.known_step-requires-clause-known
known_step-requires-clause-known c s h =
    let i = c.self.invariant.0 c.if-self.false in
    let here = subst (λ m. IsAt i.0 i.1 m i.2) c.self.view_is i.3 in
    local-known i.0 i.1 _ i.2 i.3 (c.requires.unwanted i.0 i.1 i.2 here) (subst (λ m. end_of (code_of m) i.2 ≡ None) (sym c.self.view_is) (c.requires.goes_on i.0 i.1 i.2 here)) s h

pub unreachable-requires : goal.unreachable-requires
unreachable-requires c =
    let i = c.self.invariant.0 c.if-self.false in
    let here = subst (λ m. IsAt i.0 i.1 m i.2) c.self.view_is i.3 in
    let m = stepped i.0 i.1 c.sound_steps_are_made.ensures.made _ i.2 c.in_ok-made.made c.known_step.new.self i.3 (c.requires.unwanted i.0 i.1 i.2 here) (subst (λ m. end_of (code_of m) i.2 ≡ None) (sym c.self.view_is) (c.requires.goes_on i.0 i.1 i.2 here)) (λ h. c.in_ok-made.ensures.step i.2 h) in
    absurd (true≢false (sym m.goes ∙ c.if-not-made.true))

pub invariant_of-self-2 : goal.invariant_of-self-2
invariant_of-self-2 c =
    let i = c.self.invariant.0 c.if-self.false in
    let here = subst (λ m. IsAt i.0 i.1 m i.2) c.self.view_is i.3 in
    let m = stepped i.0 i.1 c.sound_steps_are_made.ensures.made _ i.2 c.in_ok-made.made c.known_step.new.self i.3 (c.requires.unwanted i.0 i.1 i.2 here) (subst (λ m. end_of (code_of m) i.2 ≡ None) (sym c.self.view_is) (c.requires.goes_on i.0 i.1 i.2 here)) (λ h. c.in_ok-made.ensures.step i.2 h) in
    ((λ alive. (i.0, i.1, m.behind, inl (record { alive = refl; inside = m.inside; sound = m.sound; stands = m.stands }))), (λ alive order. record { end = c.coming-self-inside.ensures.end; step = c.coming-self-inside.ensures.step; want = c.coming-self-inside.ensures.want; nothing = c.coming-self-inside.ensures.nothing }))

pub returns-clause-step : goal.returns-clause-step
returns-clause-step c = λ image main s at.
    let m = stepped image main c.sound_steps_are_made.ensures.made _ s c.in_ok-made.made c.known_step.new.self (subst (λ m. IsAt image main m s) (sym c.self.view_is) at) (c.requires.unwanted image main s at) (subst (λ m. end_of (code_of m) s ≡ None) (sym c.self.view_is) (c.requires.goes_on image main s at)) (λ h. c.in_ok-made.ensures.step s h) in
    (m.behind, m.is, record { alive = refl; inside = m.inside; sound = m.sound; stands = m.stands })
