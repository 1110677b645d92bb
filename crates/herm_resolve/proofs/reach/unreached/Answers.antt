use Rattle.std.proofs.Common.{◌≡◌, ◌++◌, map, true, sym, ap, subst, ◌∙◌}
use Rattle.herm_model.specs.Types.{TypeTable}
use Rattle.herm_model.specs.Statements.{Process}
use Rattle.herm_naming.specs.UnreachedStatements.{MarksUnreached}
use Rattle.herm_typed.specs.View.{typed_stmts_view}
use Rattle.herm_resolve.specs.ControlInOnePass.{control_of_block}
use Rattle.herm_resolve.proofs.ReachMarks.{marks_of, marks_are_right}
use Rattle.herm_resolve.proofs.reach.unreached.Goals as goal

pub returns : goal.returns
returns c =
    let table : TypeTable = c.args.scope.now.types.now.shapes in
    let p : Process = record { variables = map (λ t. t.0) c.args.scope.now.of.items; body = typed_stmts_view c.args.body.now } in
    let marks : c.reach_block.new.marks.items ≡ marks_of table p =
    c.in_ok-_goes.ensures.marks
    ∙ (ap (λ ms. ms ++ (control_of_block table (map (λ t. t.0) c.as_slice.result.now) p.body true).marks) c.new-marks.ensures.items
    ∙ ap (λ of. (control_of_block table (map (λ t. t.0) of) p.body true).marks) c.as_slice.ensures.value) in
    record { marks = subst (λ ms. MarksUnreached table p ms) (sym marks) (marks_are_right table p c.requires.formed) }
