use Rattle.std.proofs.Common.{suc, Some, refl, sym, ap, subst, ◌∙◌}
use Rattle.herm_model.specs.Outcomes.{ok}
use Rattle.herm_code.specs.View.{instr_view}
use Rattle.herm_code_machine.specs.CodeStates.{at_index}
use Rattle.herm_frames.specs.Standing.{Stands}
use Rattle.herm_pieces.specs.View.{ready_view}
use Rattle.herm_stack.specs.Answers.{on_stack}
use Rattle.herm_steps.proofs.Led.{leads_on}
use Rattle.herm_steps.proofs.running.Running.pass_behind.Goals as goal

pub returns : goal.returns
returns c = record {
  behind = λ s b h.
      leads_on (ready_view c.args.code.now) s c.args.index c.behind.result (instr_view c.args.instruction.now) (on_stack c.args.self.now.stack) ok b (record { position = at_index c.behind.result; stack = c.self.inside.stack; frame = c.self.inside.frame })
      (ap Some (c.behind.ensures.behind ∙ sym (c.requires.passes (suc c.args.index)))) refl (ap (λ p. on_stack p.stack) c.self.view_is) (subst (λ p. Stands p.frame b) (sym c.self.view_is) h);
}
