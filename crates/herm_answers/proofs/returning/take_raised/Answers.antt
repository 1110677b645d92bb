use Rattle.std.proofs.Common.{◌≡◌, Some, None, Vec, Global, Option, map, option_map, ap, subst, ◌∙◌}
use Rattle.std.proofs.lemmas.List.Elements.{recursion_from_All}
use Rattle.std.specs.List.{All}
use Rattle.std.specs.Prelude.{IfSome}
use Rattle.herm_journal.specs.Actions.{raised}
use Rattle.herm_code_machine.specs.CodeActions.{kept_parameters}
use Rattle.herm_forms.specs.Acts.{given_back}
use Rattle.herm_forms.specs.Frames.{counted_action}
use Rattle.herm_code_machine.specs.CodeSteps.{counted_if}
use Rattle.herm_code_machine.specs.Pieces.{stack_before_action}
use Rattle.herm_pieces.specs.View.{piece_view, ready_view}
use Rattle.herm_stack.specs.Answers.{on_stack}
use Rattle.herm_types.specs.View.{path_view}
use Rattle.herm_values.specs.Whole.{IsWhole}
use Rattle.herm_values.specs.declared.value.Value.{Value}
use Rattle.herm_answers.specs.Takings.{IsTakenOut}
use Rattle.herm_answers.proofs.Taken.{reply_out}
use Rattle.herm_answers.proofs.returning.take_raised.Goals as goal

pub returns-in_default-clause-out : goal.returns-in_default-clause-out
returns-in_default-clause-out c = λ s h.
    let code = ready_view c.args.code.now in
    let given = (kept_parameters code (path_view c.args.source.now) c.args.kept.now) in
    let counted = counted_action (counted_if c.args.piece.has_step s) in
    let before = stack_before_action code (piece_view c.args.piece) s.variables (on_stack c.args.stack.now) in
    let f = c.take_parameters.new.frame in
    let left = on_stack c.take_parameters.new.stack in
    let paths : map path_view c.as_slice.result.now ≡ given = ap (map path_view) c.as_slice.ensures.value ∙ c.in_ok-paths.ensures.paths in
    let out = subst (λ (r : Option (Vec Value Global)). IsTakenOut (option_map (λ vs. vs.items) r) f left before (given_back code.scope (map path_view c.as_slice.result.now) counted)) c.in_default.is (c.in_ok-taken.ensures.out s h) in
    subst (λ ps. IsTakenOut None f left before (given_back code.scope ps counted)) paths out

pub returns-clause-out : goal.returns-clause-out
returns-clause-out c = λ s h.
    let code = ready_view c.args.code.now in
    let given = (kept_parameters code (path_view c.args.source.now) c.args.kept.now) in
    let counted = counted_action (counted_if c.args.piece.has_step s) in
    let before = stack_before_action code (piece_view c.args.piece) s.variables (on_stack c.args.stack.now) in
    let f = c.take_parameters.new.frame in
    let left = on_stack c.take_parameters.new.stack in
    let paths : map path_view c.as_slice.result.now ≡ given = ap (map path_view) c.as_slice.ensures.value ∙ c.in_ok-paths.ensures.paths in
    let out = subst (λ (r : Option (Vec Value Global)). IsTakenOut (option_map (λ vs. vs.items) r) f left before (given_back code.scope (map path_view c.as_slice.result.now) counted)) c.in-Some.is (c.in_ok-taken.ensures.out s h) in
    reply_out c.in-Some.values.items f left before (raised c.args.exception.0) (given_back code.scope given counted)
    (subst (λ ps. IsTakenOut (Some c.in-Some.values.items) f left before (given_back code.scope ps counted)) paths out)

pub returns-clause-whole : goal.returns-clause-whole
returns-clause-whole c = recursion_from_All IsWhole c.in-Some.values.items (subst (λ (r : Option (Vec Value Global)). IfSome r (λ vs. All IsWhole vs.items)) c.in-Some.is c.in_ok-taken.ensures.whole)
