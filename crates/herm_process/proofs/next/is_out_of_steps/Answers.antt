use Rattle.std.proofs.Common.{ap, ◌∙◌, ◌&&◌, not, nat_lt, Bool, sym}
use Rattle.herm_process.proofs.next.is_out_of_steps.Goals as goal

pub returns-then-has_step : goal.returns-then-has_step
returns-then-has_step c = record {
  spent = λ image main s h step.
      ap (λ n. not (nat_lt n c.args.limit)) (c.counts-steps.ensures.counts image main s h).0 ∙ ap (λ (b : Bool). b && not (nat_lt s.frame.steps c.args.limit)) (sym c.if-has_step.true ∙ step);
}

pub returns-else-has_step : goal.returns-else-has_step
returns-else-has_step c = record {
  spent = λ image main s h step. c.if-has_step.false ∙ ap (λ (b : Bool). b && not (nat_lt s.frame.steps c.args.limit)) (sym c.if-has_step.false ∙ step);
}
