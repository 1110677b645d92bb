use Rattle.std.proofs.Common.{map, drop, suc, None, Some, cond, sym, ap, ◌∙◌}
use Rattle.std.proofs.Math.ListN.{drop_of_length-le}
use Rattle.herm_code.specs.View.{instr_view}
use Rattle.herm_code_machine.specs.Pieces.{behind_operands}
use Rattle.herm_pieces.specs.View.{ready_view}
use Rattle.herm_stack.specs.Answers.{on_stack}
use Rattle.herm_steps.proofs.Pushed.{at_item, behind_none, behind_other, from_first}
use Rattle.herm_steps.proofs.operands.push_operands.Goals as goal

pub returns-then-not-is_operand : goal.returns-then-not-is_operand
returns-then-not-is_operand c = record {
  pushed = λ s h.
      let code = ready_view c.args.code.now in
      let items = c.as_slice-instructions.result.now in
      let d = c.index-instructions-index.result in
      from_first c.args.code.now c.args.piece s.variables items (on_stack c.args.stack.now) c.as_slice-instructions.ensures.value
      ∙ sym (c.indices.invariant s h)
      ∙ ap (λ xs. behind_operands code s.variables xs (on_stack c.indices.stack)) (at_item items c.indices.index d c.indices-test.true c.index-instructions-index.is)
      ∙ behind_other code s.variables (instr_view d) (map instr_view (drop (suc c.indices.index) items)) (on_stack c.indices.stack) (sym c.if-not-is_operand.ensures.operand);
}

pub returns-then-not-branch : goal.returns-then-not-branch
returns-then-not-branch c = record {
  pushed = λ s h.
      let code = ready_view c.args.code.now in
      let items = c.as_slice-instructions.result.now in
      let d = c.index-instructions-index.result in
      let i = instr_view d in
      from_first c.args.code.now c.args.piece s.variables items (on_stack c.args.stack.now) c.as_slice-instructions.ensures.value
      ∙ sym (c.indices.invariant s h)
      ∙ ap (λ xs. behind_operands code s.variables xs (on_stack c.indices.stack)) (at_item items c.indices.index d c.indices-test.true c.index-instructions-index.is)
      ∙ behind_none code s.variables i (map instr_view (drop (suc c.indices.index) items)) (on_stack c.indices.stack) (sym c.if-not-is_operand.ensures.operand)
      (c.in_ok-push_operand.ensures.pushed s h ∙ ap (λ t. cond t (Some (on_stack c.push_operand.new.stack)) None) c.if-not-branch.true);
}

pub returns : goal.returns
returns c = record {
  pushed = λ s h.
      let items = c.as_slice-instructions.result.now in
      from_first c.args.code.now c.args.piece s.variables items (on_stack c.args.stack.now) c.as_slice-instructions.ensures.value
      ∙ sym (c.indices.invariant s h)
      ∙ ap (λ xs. behind_operands (ready_view c.args.code.now) s.variables (map instr_view xs) (on_stack c.indices.stack)) (drop_of_length-le items c.indices-test.false);
}
