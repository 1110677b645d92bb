use Rattle.std.proofs.Common.{◌≡◌, subst}
use Rattle.std.specs.Prelude.{IfSome, ⊤}
use Rattle.herm_journal.specs.Renaming.{forget_name}
use Rattle.herm_forms.specs.Frames.{Frame}
use Rattle.herm_code.specs.View.{instr_view}
use Rattle.herm_code_machine.specs.Effects.{effect}
use Rattle.herm_frames.specs.Standing.{Stands}
use Rattle.herm_pieces.specs.View.{ready_view}
use Rattle.herm_stack.specs.Answers.{effect_of, on_stack}
use Rattle.herm_steps.proofs.Done.{by_stack}
use Rattle.herm_steps.proofs.running.Running.size.Goals as goal

pub returns : goal.returns
returns c = record {
  performed = λ b h.
      let effects = subst (λ r. IfSome r (λ d. (s : Frame ⊤) → Stands c.self.inside.frame s → effect forget_name (ready_view c.args.code.now) (instr_view c.args.instruction.now) (on_stack c.self.inside.stack) s ≡ effect_of d (on_stack c.push_size.new.stack) s)) c.in-Some.is c.in_ok-done.ensures.effect in
      by_stack (ready_view c.args.code.now) (instr_view c.args.instruction.now) b _ _ c.push_size.new.stack c.outcome_by.result c.in-Some.done c.self.view_is h
      (effects b) (c.outcome_by.ensures.performed _ b);
}
