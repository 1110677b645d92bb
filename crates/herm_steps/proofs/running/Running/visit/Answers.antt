use Rattle.herm_pieces.specs.View.{ready_view}
use Rattle.herm_stack.specs.Answers.{on_stack}
use Rattle.herm_steps.proofs.Done.{by_frame}
use Rattle.herm_steps.proofs.running.Running.visit.Goals as goal

pub returns-in_ok-outcome-in-LoopStart : goal.returns-in_ok-outcome-in-LoopStart
returns-in_ok-outcome-in-LoopStart c = record {
  performed = λ b h.
      by_frame (ready_view c.args.code.now) _ _ b _ _ c.start_loop.new.self c.in_ok-outcome-in-LoopStart.outcome c.in-LoopStart.is c.self.view_is h
      (c.in_ok-outcome-in-LoopStart.ensures.effect (ready_view c.args.code.now) (on_stack c.self.inside.stack) b);
}

pub returns-in_ok-outcome-in-LoopNext : goal.returns-in_ok-outcome-in-LoopNext
returns-in_ok-outcome-in-LoopNext c = record {
  performed = λ b h.
      by_frame (ready_view c.args.code.now) _ _ b _ _ c.next_turn.new.self c.in_ok-outcome-in-LoopNext.outcome c.in-LoopNext.is c.self.view_is h
      (c.in_ok-outcome-in-LoopNext.ensures.effect (ready_view c.args.code.now) c.in-LoopNext.field-2 (on_stack c.self.inside.stack) b);
}

pub returns-in_ok-outcome-in-LoopDrop : goal.returns-in_ok-outcome-in-LoopDrop
returns-in_ok-outcome-in-LoopDrop c = record {
  performed = λ b h.
      by_frame (ready_view c.args.code.now) _ _ b _ _ c.drop_loop.new.self c.in_ok-outcome-in-LoopDrop.outcome c.in-LoopDrop.is c.self.view_is h
      (c.in_ok-outcome-in-LoopDrop.ensures.effect (ready_view c.args.code.now) (on_stack c.self.inside.stack) b);
}
