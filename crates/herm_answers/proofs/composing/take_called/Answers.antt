use Rattle.std.proofs.Common.{◌≡◌, Some, None, cond, map, ap, ◌∙◌}
use Rattle.herm_journal.specs.Renaming.{forget_name}
use Rattle.herm_forms.specs.Frames.{counted_action}
use Rattle.herm_instructions.specs.Operands.{count_inputs}
use Rattle.herm_code.specs.View.{argument_view}
use Rattle.herm_code_machine.specs.CodeActions.{called}
use Rattle.herm_code_machine.specs.CodeSteps.{counted_if}
use Rattle.herm_code_machine.specs.Pieces.{stack_before_action}
use Rattle.herm_pieces.specs.View.{piece_view, ready_view}
use Rattle.herm_stack.specs.Answers.{on_stack}
use Rattle.herm_answers.proofs.Taken.{call_out}
use Rattle.herm_answers.proofs.composing.take_called.Goals as goal

pub returns-clause-out : goal.returns-clause-out
returns-clause-out c = λ s h.
    let code = ready_view c.args.code.now in
    let arguments = map argument_view c.args.arguments.now in
    let counted = counted_action (counted_if c.args.piece.has_step s) in
    let stack = on_stack c.push_operands.new.stack in
    let before : stack_before_action code (piece_view c.args.piece) s.variables (on_stack c.args.stack.now) ≡ Some stack =
    c.in_ok-push_operands.ensures.pushed s h ∙ ap (λ t. cond t (Some stack) None) c.if-not-branch.false in
    call_out c.in_ok-message.message c.compose_call.new.frame (on_stack c.compose_call.new.stack) (count_inputs arguments) (stack_before_action code (piece_view c.args.piece) s.variables (on_stack c.args.stack.now)) (λ st. called forget_name code arguments st counted) stack before
    c.in_ok-message.ensures.rest (c.in_ok-message.ensures.composed counted (c.count_piece.ensures.stands s h))
