use Rattle.std.proofs.Common.{◌≡◌, ◌<◌, Some, None, cond, length, map, refl, sym, ap, subst, ◌∙◌}
use Rattle.herm_model.proofs.Lists.{length-map}
use Rattle.herm_journal.specs.Renaming.{forget_name}
use Rattle.herm_forms.specs.Frames.{counted_action}
use Rattle.herm_code.specs.View.{instr_view}
use Rattle.herm_code_machine.specs.CodeActions.{code_settles}
use Rattle.herm_code_machine.specs.CodeSteps.{counted_if}
use Rattle.herm_code_machine.specs.Pieces.{stack_before_action}
use Rattle.herm_frames.specs.Standing.{Stands}
use Rattle.herm_pieces.specs.View.{met_view, piece_view, ready_view}
use Rattle.herm_stack.specs.Answers.{on_stack}
use Rattle.herm_answers.proofs.Behind.{action_behind, no_operands}
use Rattle.herm_answers.proofs.Comes.{action_comes}
use Rattle.herm_answers.proofs.acting.came_in.Goals as goal

pub returns : goal.returns
returns c = record {
  answered = λ s at action h e tells.
      let code = ready_view c.args.code.now in
      let piece = piece_view c.args.piece in
      let met = met_view c.args.met in
      let n = action_comes code s piece met e in
      let p = c.process.inside in
      let held : Stands p.frame s.frame = subst (λ q. Stands q.frame s.frame) (sym c.process.view_is) h.frame in
      let stack : s.stack ≡ on_stack p.stack = h.stack ∙ ap (λ q. on_stack q.stack) (sym c.process.view_is) in
      let before : stack_before_action code piece s.frame.variables s.stack ≡ Some (on_stack c.push_operands.new.stack) =
      ap (stack_before_action code piece s.frame.variables) stack ∙ c.in_ok-push_operands.ensures.pushed s.frame held ∙ ap (λ t. cond t (Some (on_stack c.push_operands.new.stack)) None) c.if-not-branch.false in
      let counted = counted_action (counted_if c.args.piece.has_step s.frame) in
      let settles = c.in_ok-outcome.ensures.settles code counted (on_stack c.push_operands.new.stack) at action (c.count_piece.ensures.stands s.frame held) tells in
      action_behind code s piece met at action (on_stack c.push_operands.new.stack) c.in_ok-runs.runs c.go_on.new.process n.is before
      (c.in_ok-runs.ensures.settled s (code_settles forget_name code met.instruction (on_stack c.push_operands.new.stack) at action counted) settles (subst (λ k. c.args.met.index < k) (length-map instr_view c.args.code.now.code.now.code.items) n.within));
}
