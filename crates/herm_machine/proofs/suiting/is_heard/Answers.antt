use Rattle.std.proofs.Common.{◌≡◌, Some, sym, ap, ◌∙◌}
use Rattle.herm_letters.specs.View.{reply_view}
use Rattle.herm_pieces.specs.View.{position_view, ready_view}
use Rattle.herm_machine.proofs.Awaited.{heard}
use Rattle.herm_machine.proofs.suiting.is_heard.Goals as goal

pub returns-then-open-call : goal.returns-then-open-call
returns-then-open-call c = record {
  exactly = λ s h.
      heard (ready_view c.args.code.now) s (position_view c.process.inside.position) c.args.call (reply_view c.args.reply.now) c.is_heard_at.result
      (h.frame.call ∙ ap (λ p. p.frame.call) (sym c.process.view_is) ∙ sym c.in-Some.ensures.call ∙ ap (λ k. Some k) c.if-open-call.true)
      (h.position ∙ ap (λ p. p.position) (sym c.process.view_is)) c.is_heard_at.ensures.exactly;
}
