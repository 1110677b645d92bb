use Rattle.herm_model.specs.Expressions.{concatenated}
use Rattle.herm_instructions.specs.Instructions.{Apply, Combine, as_text}
use Rattle.herm_stack.specs.Answers.{binary_view, unary_view}
use Rattle.herm_steps.proofs.Done.{by_stack}
use Rattle.herm_steps.proofs.running.Running.tell.Goals as goal

pub returns : goal.returns
returns c = record {
  performed = λ code b h.
      by_stack code (Apply as_text) b _ _ c.text.new.self c.outcome_by.result c.in_ok-done.done c.self.view_is h (λ k. c.in_ok-done.ensures.effect code b) (c.outcome_by.ensures.performed _ b);
}
