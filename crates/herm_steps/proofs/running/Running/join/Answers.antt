use Rattle.herm_model.specs.Expressions.{concatenated}
use Rattle.herm_instructions.specs.Instructions.{Apply, Combine, as_text}
use Rattle.herm_stack.specs.Answers.{binary_view, unary_view}
use Rattle.herm_steps.proofs.Done.{by_stack}
use Rattle.herm_steps.proofs.running.Running.join.Goals as goal

pub returns : goal.returns
returns c = record {
  performed = λ code b h.
      by_stack code (Combine concatenated) b _ _ c.concatenate.new.self c.outcome_by.result c.in_ok-done.done c.self.view_is h (λ k. c.in_ok-done.ensures.effect code b) (c.outcome_by.ensures.performed _ b);
}
