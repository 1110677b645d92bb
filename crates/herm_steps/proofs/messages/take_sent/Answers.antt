use Rattle.std.proofs.Common.{◌≡◌, map, Some, None, cond, option_map, option_and_then, refl, ap, subst, ◌∙◌}
use Rattle.herm_journal.specs.Actions.{put, to_put}
use Rattle.herm_model.specs.Outcomes.{ok}
use Rattle.herm_forms.specs.Exchanges.{outport_at, send, send_wants}
use Rattle.herm_forms.specs.Frames.{counted_action}
use Rattle.herm_journal.specs.Renaming.{forget_name}
use Rattle.herm_instructions.specs.Instructions.{Send}
use Rattle.herm_code_machine.specs.CodeActions.{code_wants}
use Rattle.herm_code_machine.specs.CodeSteps.{counted_if}
use Rattle.herm_code_machine.specs.Pieces.{stack_before_action}
use Rattle.herm_frames.specs.Completed.{Completes}
use Rattle.herm_pieces.specs.View.{piece_view, ready_view}
use Rattle.herm_stack.specs.Answers.{on_stack}
use Rattle.herm_types.specs.View.{path_view}
use Rattle.herm_values.specs.View.{value_view}
use Rattle.herm_steps.proofs.Counted.{sent_message, sent_nothing}
use Rattle.herm_steps.proofs.messages.take_sent.Goals as goal

pub returns-clause-wanted : goal.returns-clause-wanted
returns-clause-wanted c = λ s port p h at.
    let lost = map path_view c.args.trim.now in
    let x = path_view c.args.source.now in
    let counted = counted_action (counted_if c.args.piece.has_step s) in
    let before : stack_before_action (ready_view c.args.code.now) (piece_view c.args.piece) s.variables (on_stack c.args.stack.now) ≡ Some (on_stack c.push_operands.new.stack) =
    c.in_ok-push_operands.ensures.pushed s h ∙ ap (λ t. cond t (Some (on_stack c.push_operands.new.stack)) None) c.if-not-branch.false in
    let wanted : send_wants lost x port counted ≡ option_and_then (λ q. option_map (λ w. to_put q (value_view w)) (Some c.in-Some.message)) (outport_at port counted) =
    subst (λ r. send_wants lost x port counted ≡ option_and_then (λ q. option_map (λ w. to_put q (value_view w)) r) (outport_at port counted)) c.in-Some.is (c.in_ok-message.ensures.wanted counted port (c.count_piece.ensures.stands s h)) in
    (on_stack c.push_operands.new.stack, before, sent_message lost x port c.args.piece.has_step s p c.in-Some.message wanted at)

pub returns-clause-placed : goal.returns-clause-placed
returns-clause-placed c = λ s port at number m h.
    let lost = map path_view c.args.trim.now in
    let x = path_view c.args.source.now in
    let counted = counted_action (counted_if c.args.piece.has_step s) in
    let before : stack_before_action (ready_view c.args.code.now) (piece_view c.args.piece) s.variables (on_stack c.args.stack.now) ≡ Some (on_stack c.push_operands.new.stack) =
    c.in_ok-push_operands.ensures.pushed s h ∙ ap (λ t. cond t (Some (on_stack c.push_operands.new.stack)) None) c.if-not-branch.false in
    let placed : Completes (Some ok) c.take_message.new.frame (send lost x (put (Some number) m) counted) =
    subst (λ r. Completes (option_map (λ v. ok) r) c.take_message.new.frame (send lost x (put (Some number) m) counted)) c.in-Some.is (c.in_ok-message.ensures.placed counted number m (c.count_piece.ensures.stands s h)) in
    (on_stack c.push_operands.new.stack, before, refl, placed)

pub returns-in_default-clause-absent : goal.returns-in_default-clause-absent
returns-in_default-clause-absent c = λ s port h.
    let lost = map path_view c.args.trim.now in
    let x = path_view c.args.source.now in
    let counted = counted_action (counted_if c.args.piece.has_step s) in
    let before : stack_before_action (ready_view c.args.code.now) (piece_view c.args.piece) s.variables (on_stack c.args.stack.now) ≡ Some (on_stack c.push_operands.new.stack) =
    c.in_ok-push_operands.ensures.pushed s h ∙ ap (λ t. cond t (Some (on_stack c.push_operands.new.stack)) None) c.if-not-branch.false in
    let wanted : send_wants lost x port counted ≡ option_and_then (λ q. option_map (λ w. to_put q (value_view w)) None) (outport_at port counted) =
    subst (λ r. send_wants lost x port counted ≡ option_and_then (λ q. option_map (λ w. to_put q (value_view w)) r) (outport_at port counted)) c.in_default.is (c.in_ok-message.ensures.wanted counted port (c.count_piece.ensures.stands s h)) in
    ap (option_and_then (λ st. code_wants forget_name (ready_view c.args.code.now) (Send x port lost) st s)) before ∙ sent_nothing lost x port c.args.piece.has_step s wanted
