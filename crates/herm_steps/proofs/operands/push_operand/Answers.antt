use Rattle.std.proofs.Common.{◌≡◌, Some, None, cond, sym, subst}
use Rattle.herm_code.specs.View.{instr_view}
use Rattle.herm_code_machine.specs.Pieces.{operand, pushed}
use Rattle.herm_pieces.specs.View.{ready_view}
use Rattle.herm_stack.specs.Answers.{on_stack}
use Rattle.herm_steps.proofs.operands.push_operand.Goals as goal

pub returns-in_ok-pushed-in-Const : goal.returns-in_ok-pushed-in-Const
returns-in_ok-pushed-in-Const c = record {
  pushed = λ s h.
      subst (λ i. pushed (operand (ready_view c.args.code.now) (instr_view i) s.variables) (on_stack c.args.stack.now) ≡ cond c.in_ok-pushed-in-Const.pushed (Some (on_stack c.push_constant.new.stack)) None) (sym c.in-Const.is)
      (c.in_ok-pushed-in-Const.ensures.pushed s);
}

pub returns-in_ok-pushed-in-Load : goal.returns-in_ok-pushed-in-Load
returns-in_ok-pushed-in-Load c = record {
  pushed = λ s h.
      subst (λ i. pushed (operand (ready_view c.args.code.now) (instr_view i) s.variables) (on_stack c.args.stack.now) ≡ cond c.in_ok-pushed-in-Load.pushed (Some (on_stack c.push_copy.new.stack)) None) (sym c.in-Load.is)
      (c.in_ok-pushed-in-Load.ensures.pushed (ready_view c.args.code.now) s h);
}
