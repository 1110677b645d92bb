use Rattle.std.proofs.Common.{◌≡◌, refl, sym, ap, subst, ◌∙◌}
use Rattle.herm_code.specs.View.{instr_view}
use Rattle.herm_code_machine.specs.CodeStates.{at_index, stack_after}
use Rattle.herm_frames.specs.Standing.{Stands}
use Rattle.herm_pieces.specs.View.{outcome_view, ready_view}
use Rattle.herm_stack.specs.Answers.{on_stack}
use Rattle.herm_steps.proofs.Led.{leads_on}
use Rattle.herm_steps.proofs.running.Running.lead_on.Goals as goal

pub returns : goal.returns
returns c = record {
  behind = λ s b h.
      let stack : on_stack c.self.inside.stack ≡ stack_after (outcome_view c.args.outcome) (on_stack c.args.self.now.stack) = ap (λ p. on_stack p.stack) c.self.view_is ∙ c.clear_raised.ensures.stack in
      let frame : Stands c.self.inside.frame b = subst (λ p. Stands p.frame b) (sym (c.self.view_is ∙ c.clear_raised.ensures.process)) h in
      leads_on (ready_view c.args.code.now) s c.args.index c.in-Some.next (instr_view c.args.instruction.now) (on_stack c.args.self.now.stack) (outcome_view c.args.outcome) b (record { position = at_index c.in-Some.next; stack = c.self.inside.stack; frame = c.self.inside.frame })
      c.in-Some.ensures.leads refl stack frame;
}
