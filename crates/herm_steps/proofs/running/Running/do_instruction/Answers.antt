use Rattle.std.proofs.Common.{ap, refl, subst, sym}
use Rattle.herm_journal.specs.Renaming.{forget_name}
use Rattle.herm_code.specs.View.{instr_view}
use Rattle.herm_code_machine.specs.Effects.{effect}
use Rattle.herm_pieces.specs.View.{ready_view}
use Rattle.herm_stack.specs.Answers.{on_stack}
use Rattle.herm_steps.specs.Kinds.{is_ending, is_leading, is_pushing, is_storing}
use Rattle.herm_steps.specs.KindsOfCode.{IsKind}
use Rattle.herm_steps.specs.Performed.{Performs}
use Rattle.herm_steps.proofs.Done.{done_by, other_than_end}
use Rattle.herm_steps.proofs.running.Running.do_instruction.Goals as goal

pub returns-in_ok-outcome-in-Pushing : goal.returns-in_ok-outcome-in-Pushing
returns-in_ok-outcome-in-Pushing c = record {
  done = λ s h.
      done_by (ready_view c.args.code.now) s c.args.index (instr_view c.args.instruction.now) c.in_ok-outcome-in-Pushing.outcome c.args.self.now c.push.new.self c.go_behind.new.self c.go_behind.result
      (other_than_end is_pushing refl (λ e. refl) (instr_view c.args.instruction.now) (subst (λ k. IsKind k (instr_view c.args.instruction.now)) c.in-Pushing.is c.requires.kind)) h
      (c.in_ok-outcome-in-Pushing.ensures.performed) (c.go_behind.ensures.behind s);
}

pub returns-in-Combining : goal.returns-in-Combining
returns-in-Combining c = record {
  done = λ s h.
      done_by (ready_view c.args.code.now) s c.args.index (instr_view c.args.instruction.now) c.combine-outcome.result c.args.self.now c.combine-outcome.new.self c.go_behind-in-Combining.new.self c.go_behind-in-Combining.result
      (ap is_ending (subst (λ k. IsKind k (instr_view c.args.instruction.now)) c.in-Combining.is c.requires.kind)) h
      (λ b stands. subst (λ i. Performs c.combine-outcome.result c.combine-outcome.new.self (effect forget_name (ready_view c.args.code.now) i (on_stack c.args.self.now.stack) b)) (sym (subst (λ k. IsKind k (instr_view c.args.instruction.now)) c.in-Combining.is c.requires.kind))
      (c.combine-outcome.ensures.performed (ready_view c.args.code.now) b stands)) (c.go_behind-in-Combining.ensures.behind s);
}

pub returns-in_ok-outcome-in-Storing : goal.returns-in_ok-outcome-in-Storing
returns-in_ok-outcome-in-Storing c = record {
  done = λ s h.
      done_by (ready_view c.args.code.now) s c.args.index (instr_view c.args.instruction.now) c.in_ok-outcome-in-Storing.outcome c.args.self.now c.store_by.new.self c.go_behind-in-Storing.new.self c.go_behind-in-Storing.result
      (other_than_end is_storing refl (λ e. refl) (instr_view c.args.instruction.now) (subst (λ k. IsKind k (instr_view c.args.instruction.now)) c.in-Storing.is c.requires.kind)) h
      (c.in_ok-outcome-in-Storing.ensures.performed (ready_view c.args.code.now)) (c.go_behind-in-Storing.ensures.behind s);
}

pub returns-in-Leading : goal.returns-in-Leading
returns-in-Leading c = record {
  done = λ s h.
      done_by (ready_view c.args.code.now) s c.args.index (instr_view c.args.instruction.now) c.lead-outcome.result c.args.self.now c.lead-outcome.new.self c.go_on.new.self c.go_on.result
      (other_than_end is_leading refl (λ e. refl) (instr_view c.args.instruction.now) (subst (λ k. IsKind k (instr_view c.args.instruction.now)) c.in-Leading.is c.requires.kind)) h
      (c.lead-outcome.ensures.performed) (c.go_on.ensures.behind s);
}

pub returns-in_ok-end_at-in-Ending : goal.returns-in_ok-end_at-in-Ending
returns-in_ok-end_at-in-Ending c = record {
  done = λ s h. c.in_ok-end_at-in-Ending.ensures.done s c.args.index (instr_view c.args.instruction.now) (subst (λ k. IsKind k (instr_view c.args.instruction.now)) c.in-Ending.is c.requires.kind) h;
}
