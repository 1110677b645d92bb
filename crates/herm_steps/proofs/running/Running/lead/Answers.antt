use Rattle.std.proofs.Common.{sym, subst}
use Rattle.herm_journal.specs.Renaming.{forget_name}
use Rattle.herm_code.specs.View.{instr_view}
use Rattle.herm_code_machine.specs.Effects.{effect}
use Rattle.herm_pieces.specs.View.{ready_view}
use Rattle.herm_stack.specs.Answers.{on_stack}
use Rattle.herm_steps.specs.Performed.{Performs}
use Rattle.herm_steps.proofs.running.Running.lead.Goals as goal

pub returns-in-JumpFalse : goal.returns-in-JumpFalse
returns-in-JumpFalse c = record {
  performed = λ b h.
      subst (λ i. Performs c.test.result c.test.new.self (effect forget_name (ready_view c.args.code.now) (instr_view i) (on_stack c.args.self.now.stack) b)) (sym c.in-JumpFalse.is)
      (c.test.ensures.performed (ready_view c.args.code.now) c.in-JumpFalse.field-0 b h);
}
