use Rattle.std.proofs.Common.{◌∙◌, refl}
use Rattle.herm_machine.specs.Machines.{nameless}
use Rattle.herm_process.proofs.Standings.{answer-wanted, at-alive, at-inside}
use Rattle.herm_process.proofs.Handed.{answer-given}
use Rattle.herm_process.specs.declared.ordered.Ordered.TheVariants as ordered
use Rattle.herm_process.proofs.ordering.answer_order.Goals as goal

pub reply-requires-clause-answer : goal.reply-requires-clause-answer
reply-requires-clause-answer c image main s at = answer-wanted ((nameless image main).wanted s) c.args.caller.number c.args.call (c.requires.answer image main s at)

pub returns-clause-orders : goal.returns-clause-orders
returns-clause-orders c = (
  ordered.Answer c.args.caller c.args.call c.in_ok-text.text c.sums_of-sums.result,
  refl,
  λ image main s at.
      answer-given c.reply.new.self image main s c.args.caller c.args.call c.in_ok-reply.reply c.in_ok-reply.recorded c.in_ok-reply.heard c.in_ok-text.text c.sums_of-sums.result (c.sums_of-sums.ensures.sums image main s (at-inside image main c.args.machine.now s at (c.requires.inside (at-alive image main c.args.machine.now s at)))) (c.requires.answer image main s at)
      (c.in_ok-reply.ensures.reply image main s at) (c.in_ok-text.ensures.same ∙ c.in_ok-reply.ensures.texts.0) (c.in_ok-reply.ensures.out image main s at),
)
