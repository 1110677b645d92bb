use Rattle.herm_machine.proofs.Wanted.{if_none, if_some}
use Rattle.herm_machine.proofs.taking.message_of.Goals as goal

pub returns-in_ok-message-in-Action-clause-wanted : goal.returns-in_ok-message-in-Action-clause-wanted
returns-in_ok-message-in-Action-clause-wanted c = if_some c.in_ok-message-in-Action.message (λ v f s w h e. f s w h (c.in-Action.ensures.next s h) e) c.in_ok-message-in-Action.ensures.wanted

pub returns-in_ok-message-in-Action-clause-out : goal.returns-in_ok-message-in-Action-clause-out
returns-in_ok-message-in-Action-clause-out c = if_some c.in_ok-message-in-Action.message (λ v f s w h e. f s w h (c.in-Action.ensures.next s h) e) c.in_ok-message-in-Action.ensures.out

pub returns-in_ok-message-in-Action-clause-absent : goal.returns-in_ok-message-in-Action-clause-absent
returns-in_ok-message-in-Action-clause-absent c = if_none c.in_ok-message-in-Action.message (λ f s m h e. f s m h (c.in-Action.ensures.next s h) e) c.in_ok-message-in-Action.ensures.absent
