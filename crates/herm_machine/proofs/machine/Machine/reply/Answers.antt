use Rattle.std.proofs.Common.{◌≡◌, Some, inr, refl, sym, ap, subst, ◌∙◌}
use Rattle.herm_journal.specs.Actions.{to_answer}
use Rattle.herm_letters.specs.View.{reply_view}
use Rattle.herm_model.proofs.Options.{none-not_some}
use Rattle.herm_machine.specs.Machines.{IsAt, IsInside}
use Rattle.herm_machine.proofs.Standing.{inside-wanted, taken-out}
use Rattle.herm_machine.proofs.Wanted.{none_of, some_of}
use Rattle.herm_machine.proofs.machine.Machine.reply.Goals as goal

pub unreachable-requires : goal.unreachable-requires
unreachable-requires c =
    let i = c.self.invariant.0 c.if-self.false in
    let r = c.requires.answer i.0 i.1 i.2 (subst (λ m. IsAt i.0 i.1 m i.2) c.self.view_is i.3) in
    inside-wanted i.0 i.1 _ i.2 (to_answer r.0 r.1 r.2) i.3 (subst IsInside (sym c.self.view_is) c.requires.inside c.if-self.false) r.3
    (λ h e. none_of c.in_ok-reply.field-0 c.in_default.is c.in_ok-reply.ensures.absent i.2 r.2 h (to_answer r.0 r.1 r.2, e, (r.0, r.1, refl)))

pub invariant_of-self-2 : goal.invariant_of-self-2
invariant_of-self-2 c =
    let i = c.self.invariant.0 c.if-self.false in
    let r = c.requires.answer i.0 i.1 i.2 (subst (λ m. IsAt i.0 i.1 m i.2) c.self.view_is i.3) in
    let none = subst IsInside (sym c.self.view_is) c.requires.inside c.if-self.false in
    let f = c.self.invariant.1 c.if-self.false none in
    let out =
    taken-out i.0 i.1 _ i.2 (to_answer r.0 r.1 r.2) c.reply_of.new.process c.self.inside.coming.want c.in-Some.is_front i.3 none r.3 tt
    (λ w h e. f.want i.2 w h e) (λ w h e. some_of _ c.in_ok-reply.field-0 (c.in-Some.reply, c.in-Some.is_front) c.in-Some.is c.in_ok-reply.ensures.out i.2 w h e) in
    ((λ alive. (i.0, i.1, i.2, inr out)), (λ alive order. none-not_some (sym order ∙ out.order)))

pub returns-clause-out : goal.returns-clause-out
returns-clause-out c = λ image main s at.
    let r = c.requires.answer image main s at in
    let none = subst IsInside (sym c.self.view_is) c.requires.inside c.if-self.false in
    let f = c.self.invariant.1 c.if-self.false none in
    taken-out image main _ s (to_answer r.0 r.1 r.2) c.reply_of.new.process c.self.inside.coming.want c.in-Some.is_front (subst (λ m. IsAt image main m s) (sym c.self.view_is) at) none r.3 tt
    (λ w h e. f.want s w h e) (λ w h e. some_of _ c.in_ok-reply.field-0 (c.in-Some.reply, c.in-Some.is_front) c.in-Some.is c.in_ok-reply.ensures.out s w h e)

pub returns-clause-reply : goal.returns-clause-reply
returns-clause-reply c = λ image main s at.
    let r = c.requires.answer image main s at in
    inside-wanted image main _ s (to_answer r.0 r.1 r.2) (subst (λ m. IsAt image main m s) (sym c.self.view_is) at) (subst IsInside (sym c.self.view_is) c.requires.inside c.if-self.false) r.3
    (λ h e. let p = some_of _ c.in_ok-reply.field-0 (c.in-Some.reply, c.in-Some.is_front) c.in-Some.is c.in_ok-reply.ensures.wanted s (to_answer r.0 r.1 r.2) h e in
    (p.0, p.1, r.3 ∙ ap (λ w. Some w) p.2))
