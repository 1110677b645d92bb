use Rattle.std.proofs.Common.{sym, ap, ◌∙◌}
use Rattle.herm_answers.proofs.putting.ordered.Goals as goal

pub returns : goal.returns
returns c = record {
  ordered = λ s o. c.action_at.ensures.action s o.piece o.met (o.position ∙ ap (λ p. p.position) (sym c.process.view_is)) o.next;
}
