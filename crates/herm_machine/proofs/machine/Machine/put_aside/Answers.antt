use Rattle.std.proofs.Common.{inl, sym, subst}
use Rattle.herm_machine.specs.Machines.{IsAt, IsInside, nameless}
use Rattle.herm_machine.proofs.Standing.{alive-of, aside-at}
use Rattle.herm_machine.proofs.machine.Machine.put_aside.Goals as goal

pub invariant_of-self : goal.invariant_of-self
invariant_of-self c = (
  (λ alive.
      let i = c.self.invariant.0 alive in
      (i.0, i.1, (nameless i.0 i.1).put_aside i.2, inl (aside-at i.0 i.1 _ i.2 c.count_aside.new.process i.3 (subst IsInside (sym c.self.view_is) c.requires.inside alive) (λ h. c.count_aside.ensures.stands i.2 h)))),
  (λ alive order. record { end = c.coming-self-inside.ensures.end; step = c.coming-self-inside.ensures.step; want = c.coming-self-inside.ensures.want; nothing = c.coming-self-inside.ensures.nothing }),
)

pub returns-clause-aside : goal.returns-clause-aside
returns-clause-aside c = λ image main s at.
    let here = subst (λ m. IsAt image main m s) (sym c.self.view_is) at in
    aside-at image main _ s c.count_aside.new.process here (subst IsInside (sym c.self.view_is) c.requires.inside (alive-of image main _ s here)) (λ h. c.count_aside.ensures.stands s h)
