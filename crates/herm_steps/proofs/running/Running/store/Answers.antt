use Rattle.herm_instructions.specs.Instructions.{Store}
use Rattle.herm_types.specs.View.{path_view}
use Rattle.herm_stack.specs.Answers.{on_stack}
use Rattle.herm_steps.proofs.Done.{by_top}
use Rattle.herm_steps.proofs.running.Running.store.Goals as goal

pub returns : goal.returns
returns c = record {
  performed = λ code b h.
      by_top code (Store (path_view c.args.target.now)) b _ _ c.in-Some.v c.pop.new.self c.store.new.self c.in_ok-outcome.outcome c.self.view_is h c.in-Some.ensures.popped
      (c.in_ok-outcome.ensures.effect code (on_stack c.pop.new.self) b);
}
