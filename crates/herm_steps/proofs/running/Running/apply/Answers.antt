use Rattle.herm_model.specs.Expressions.{concatenated}
use Rattle.herm_instructions.specs.Instructions.{Apply, Combine, as_text}
use Rattle.herm_stack.specs.Answers.{binary_view, unary_view}
use Rattle.herm_steps.proofs.Done.{by_stack}
use Rattle.herm_steps.proofs.running.Running.apply.Goals as goal

pub returns : goal.returns
returns c = record {
  performed = λ code b h.
      by_stack code (Apply (unary_view c.args.operator)) b _ _ c.apply.new.self c.outcome_by.result c.apply.result c.self.view_is h (λ k. c.apply.ensures.effect code b) (c.outcome_by.ensures.performed _ b);
}
