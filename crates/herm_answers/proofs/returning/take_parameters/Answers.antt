use Rattle.std.proofs.Common.{◌≡◌, Some, None, Vec, Global, cond, map, option_map, ap, subst, ◌∙◌}
use Rattle.std.specs.Prelude.{flat_map}
use Rattle.herm_forms.specs.Acts.{given_back}
use Rattle.herm_forms.specs.Excess.{excess_over_full}
use Rattle.herm_forms.specs.Frames.{counted_action}
use Rattle.herm_forms.specs.ReturnForms.{give_back}
use Rattle.herm_code_machine.specs.CodeSteps.{counted_if}
use Rattle.herm_code_machine.specs.Pieces.{stack_before_action}
use Rattle.herm_exchanges.specs.Worked.{IsTaken}
use Rattle.herm_pieces.specs.View.{piece_view, ready_view}
use Rattle.herm_stack.specs.Answers.{on_stack}
use Rattle.herm_types.specs.View.{path_view}
use Rattle.herm_values.specs.declared.value.Value.{Value}
use Rattle.herm_answers.proofs.Taken.{taken_out}
use Rattle.herm_answers.proofs.returning.take_parameters.Goals as goal

pub returns-clause-out : goal.returns-clause-out
returns-clause-out c = λ s h.
    let code = ready_view c.args.code.now in
    let paths = map path_view c.args.paths.now in
    let counted = counted_action (counted_if c.args.piece.has_step s) in
    let stands = c.count_piece.ensures.stands s h in
    let stack = on_stack c.push_operands.new.stack in
    let before : stack_before_action code (piece_view c.args.piece) s.variables (on_stack c.args.stack.now) ≡ Some stack =
    c.in_ok-push_operands.ensures.pushed s h ∙ ap (λ t. cond t (Some stack) None) c.if-not-branch.false in
    let lost : map path_view c.as_slice.result.now ≡ flat_map (λ p. excess_over_full code.scope p counted) paths = ap (map path_view) c.as_slice.ensures.value ∙ c.in_ok-lost.ensures.lost counted stands in
    let r = option_map (λ (vs : Vec Value Global). vs.items) c.in_ok-values.values in
    taken_out r c.take_given.new.frame stack (stack_before_action code (piece_view c.args.piece) s.variables (on_stack c.args.stack.now)) (given_back code.scope paths counted) before
    (subst (λ l. IsTaken r c.take_given.new.frame (give_back l paths counted)) lost (c.in_ok-values.ensures.taken counted stands))
