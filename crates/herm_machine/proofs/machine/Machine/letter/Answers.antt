use Rattle.std.proofs.Common.{◌≡◌, false, Some, inr, refl, sym, ap, subst, ◌∙◌}
use Rattle.herm_journal.specs.Actions.{to_put}
use Rattle.herm_values.specs.View.{value_view}
use Rattle.herm_model.proofs.Options.{none-not_some}
use Rattle.herm_machine.specs.Machines.{IsAt, IsInside}
use Rattle.herm_machine.proofs.Standing.{inside-wanted, taken-out}
use Rattle.herm_machine.proofs.Wanted.{none_of, some_of}
use Rattle.herm_machine.proofs.machine.Machine.letter.Goals as goal

pub unreachable-requires : goal.unreachable-requires
unreachable-requires c =
    let i = c.self.invariant.0 c.if-self.false in
    let put = c.requires.put i.0 i.1 i.2 (subst (λ m. IsAt i.0 i.1 m i.2) c.self.view_is i.3) in
    inside-wanted i.0 i.1 _ i.2 (to_put put.0 put.1) i.3 (subst IsInside (sym c.self.view_is) c.requires.inside c.if-self.false) put.2
    (λ h e. none_of c.in_ok-message.field-0 c.in_default.is c.in_ok-message.ensures.absent i.2 put.1 h (to_put put.0 put.1, e, (put.0, refl)))

pub invariant_of-self-2 : goal.invariant_of-self-2
invariant_of-self-2 c =
    let i = c.self.invariant.0 c.if-self.false in
    let put = c.requires.put i.0 i.1 i.2 (subst (λ m. IsAt i.0 i.1 m i.2) c.self.view_is i.3) in
    let none = subst IsInside (sym c.self.view_is) c.requires.inside c.if-self.false in
    let f = c.self.invariant.1 c.if-self.false none in
    let out =
    taken-out i.0 i.1 _ i.2 (to_put put.0 put.1) c.message_of.new.process c.self.inside.coming.want false i.3 none put.2 tt
    (λ w h e. f.want i.2 w h e) (λ w h e. some_of _ c.in_ok-message.field-0 c.in-Some.message c.in-Some.is c.in_ok-message.ensures.out i.2 w h e) in
    ((λ alive. (i.0, i.1, i.2, inr out)), (λ alive order. none-not_some (sym order ∙ out.order)))

pub returns-clause-out : goal.returns-clause-out
returns-clause-out c = λ image main s at.
    let put = c.requires.put image main s at in
    let none = subst IsInside (sym c.self.view_is) c.requires.inside c.if-self.false in
    let f = c.self.invariant.1 c.if-self.false none in
    taken-out image main _ s (to_put put.0 put.1) c.message_of.new.process c.self.inside.coming.want false (subst (λ m. IsAt image main m s) (sym c.self.view_is) at) none put.2 tt
    (λ w h e. f.want s w h e) (λ w h e. some_of _ c.in_ok-message.field-0 c.in-Some.message c.in-Some.is c.in_ok-message.ensures.out s w h e)

pub returns-clause-letter : goal.returns-clause-letter
returns-clause-letter c = λ image main s at.
    let put = c.requires.put image main s at in
    inside-wanted image main _ s (to_put put.0 put.1) (subst (λ m. IsAt image main m s) (sym c.self.view_is) at) (subst IsInside (sym c.self.view_is) c.requires.inside c.if-self.false) put.2
    (λ h e. let p = some_of _ c.in_ok-message.field-0 c.in-Some.message c.in-Some.is c.in_ok-message.ensures.wanted s (to_put put.0 put.1) h e in
    (p.0, put.2 ∙ ap (λ w. Some w) p.1 ∙ ap (λ v. Some (to_put p.0 (value_view v))) (sym c.in-Ok.ensures.letter)))
