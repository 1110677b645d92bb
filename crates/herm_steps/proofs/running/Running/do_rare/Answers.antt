use Rattle.std.specs.Prelude.{⊤}
use Rattle.herm_journal.specs.Renaming.{forget_name}
use Rattle.herm_forms.specs.Frames.{Frame}
use Rattle.herm_code.specs.View.{instr_view}
use Rattle.herm_code_machine.specs.Effects.{effect}
use Rattle.herm_pieces.specs.View.{ready_view}
use Rattle.herm_frames.specs.Standing.{Stands}
use Rattle.herm_frames.specs.declared.outcome.Outcome.{Outcome}
use Rattle.herm_stack.specs.Answers.{on_stack}
use Rattle.herm_steps.specs.Performed.{Performs}
use Rattle.herm_steps.proofs.Done.{done_by, rare_is_no_end}
use Rattle.herm_steps.proofs.KeyTaken.{some_of}
use Rattle.herm_steps.proofs.running.Running.do_rare.Goals as goal

pub returns : goal.returns
returns c = record {
  done = λ s h.
      let i = instr_view c.args.instruction.now in
      done_by (ready_view c.args.code.now) s c.args.index i c.in-Some.outcome c.args.self.now c.perform.new.self c.go_on.new.self c.go_on.result
      (rare_is_no_end c.args.rare i c.requires.kind) h
      (some_of (λ (o : Outcome). (b : Frame ⊤) → Stands c.args.self.now.frame b → Performs o c.perform.new.self (effect forget_name (ready_view c.args.code.now) i (on_stack c.args.self.now.stack) b))
      c.in_ok-outcome.field-0 c.in-Some.outcome c.in-Some.is c.in_ok-outcome.ensures.performed)
      (c.go_on.ensures.behind s);
}
