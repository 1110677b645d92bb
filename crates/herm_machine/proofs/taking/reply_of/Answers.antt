use Rattle.herm_machine.proofs.Wanted.{none_of, some_of}
use Rattle.herm_machine.proofs.taking.reply_of.Goals as goal

pub returns-in-Some-2-clause-wanted : goal.returns-in-Some-2-clause-wanted
returns-in-Some-2-clause-wanted c = λ s w h e. some_of _ c.in_ok-reply-in-Action.field-0 c.in-Some-2.reply c.in-Some-2.is c.in_ok-reply-in-Action.ensures.wanted s w h (c.in-Action.ensures.next s h) e

pub returns-in-Some-2-clause-out : goal.returns-in-Some-2-clause-out
returns-in-Some-2-clause-out c = λ s w h e. some_of _ c.in_ok-reply-in-Action.field-0 c.in-Some-2.reply c.in-Some-2.is c.in_ok-reply-in-Action.ensures.out s w h (c.in-Action.ensures.next s h) e

pub returns-in-None-2-clause-absent : goal.returns-in-None-2-clause-absent
returns-in-None-2-clause-absent c = λ s reply h e. none_of c.in_ok-reply-in-Action.field-0 c.in-None-2.is c.in_ok-reply-in-Action.ensures.absent s reply h (c.in-Action.ensures.next s h) e
