use Rattle.std.proofs.Common.{◌≡◌, false, inl, refl, sym, subst, ◌∙◌, true≢false}
use Rattle.herm_machine.specs.Gots.{Fits, IsOrdered, IsSuiting}
use Rattle.herm_machine.specs.Machines.{IsAt}
use Rattle.herm_machine.proofs.Standing.{took-each, took-one}
use Rattle.herm_machine.proofs.machine.Machine.took.Goals as goal

pub unreachable-requires : goal.unreachable-requires
unreachable-requires c =
    let m = took-one c.args.got _ c.in_ok-goes.goes c.settle.new.process (λ s w at a from e answers hears tells. c.in_ok-goes.ensures.answered s w at a from e answers hears tells) c.if-self.false
    (subst (λ m. Fits m c.args.got) (sym c.self.view_is) c.requires.fits) (subst (λ m. IsSuiting m c.args.got) (sym c.self.view_is) c.requires.suits) (subst (λ m. IsOrdered m c.args.got) (sym c.self.view_is) c.requires.ordered) in
    absurd (true≢false (sym (m.behind).goes ∙ c.if-not-goes.true))

pub invariant_of-self-2 : goal.invariant_of-self-2
invariant_of-self-2 c =
    let m = took-one c.args.got _ c.in_ok-goes.goes c.settle.new.process (λ s w at a from e answers hears tells. c.in_ok-goes.ensures.answered s w at a from e answers hears tells) c.if-self.false
    (subst (λ m. Fits m c.args.got) (sym c.self.view_is) c.requires.fits) (subst (λ m. IsSuiting m c.args.got) (sym c.self.view_is) c.requires.suits) (subst (λ m. IsOrdered m c.args.got) (sym c.self.view_is) c.requires.ordered) in
    ((λ alive. (m.image, m.main, (m.behind).behind, inl (record { alive = refl; inside = refl; sound = (m.behind).sound; stands = (m.behind).stands }))), (λ alive order. record { end = c.coming-self-inside.ensures.end; step = c.coming-self-inside.ensures.step; want = c.coming-self-inside.ensures.want; nothing = c.coming-self-inside.ensures.nothing }))

pub returns-clause-answered : goal.returns-clause-answered
returns-clause-answered c = λ image main s w at a here wanted answers tells.
    let m = took-each image main c.args.got _ s w at a c.in_ok-goes.goes c.settle.new.process (λ s w at a from e answers hears tells. c.in_ok-goes.ensures.answered s w at a from e answers hears tells)
    (subst (λ m. IsAt image main m s) (sym c.self.view_is) here) (subst (λ m. IsSuiting m c.args.got) (sym c.self.view_is) c.requires.suits) (subst (λ m. IsOrdered m c.args.got) (sym c.self.view_is) c.requires.ordered) wanted answers tells in
    (m.behind, m.is, record { alive = refl; inside = refl; sound = m.sound; stands = m.stands })
