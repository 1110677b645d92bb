use Rattle.std.proofs.Common.{sym, subst}
use Rattle.herm_journal.specs.Renaming.{forget_name}
use Rattle.herm_code.specs.View.{instr_view}
use Rattle.herm_code_machine.specs.Effects.{effect}
use Rattle.herm_pieces.specs.View.{ready_view}
use Rattle.herm_stack.specs.Answers.{on_stack}
use Rattle.herm_steps.specs.KindsOfCode.{IsRare}
use Rattle.herm_steps.specs.Performed.{Performs}
use Rattle.herm_steps.proofs.running.Running.perform.Goals as goal

pub returns-in-Applying-clause-performed : goal.returns-in-Applying-clause-performed
returns-in-Applying-clause-performed c = λ b h.
    subst (λ i. Performs c.apply.result c.apply.new.self (effect forget_name (ready_view c.args.code.now) i (on_stack c.args.self.now.stack) b))
    (sym (subst (λ r. IsRare r (instr_view c.args.instruction.now)) c.in-Applying.is c.requires.kind)) (c.apply.ensures.performed (ready_view c.args.code.now) b h)

pub returns-in_ok-outcome-in-Telling-clause-performed : goal.returns-in_ok-outcome-in-Telling-clause-performed
returns-in_ok-outcome-in-Telling-clause-performed c = λ b h.
    subst (λ i. Performs c.in_ok-outcome-in-Telling.outcome c.tell.new.self (effect forget_name (ready_view c.args.code.now) i (on_stack c.args.self.now.stack) b))
    (sym (subst (λ r. IsRare r (instr_view c.args.instruction.now)) c.in-Telling.is c.requires.kind)) (c.in_ok-outcome-in-Telling.ensures.performed (ready_view c.args.code.now) b h)

pub returns-in_ok-outcome-in-Joining-clause-performed : goal.returns-in_ok-outcome-in-Joining-clause-performed
returns-in_ok-outcome-in-Joining-clause-performed c = λ b h.
    subst (λ i. Performs c.in_ok-outcome-in-Joining.outcome c.join.new.self (effect forget_name (ready_view c.args.code.now) i (on_stack c.args.self.now.stack) b))
    (sym (subst (λ r. IsRare r (instr_view c.args.instruction.now)) c.in-Joining.is c.requires.kind)) (c.in_ok-outcome-in-Joining.ensures.performed (ready_view c.args.code.now) b h)
