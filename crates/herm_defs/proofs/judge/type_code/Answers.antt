use Rattle.herm_syntax.specs.View.{shape_form_view}
use Rattle.herm_defs.proofs.Roles.{type-role}
use Rattle.herm_defs.proofs.judge.type_code.Goals as goal

pub returns : goal.returns
returns c = type-role c.args.context.now c.args.name.now c.args.number (shape_form_view c.args.shape.now) c.has_type_before.result c.reaches_itself.result c.is_deep.result c.in_ok-bad_state.bad_state c.has_type_before.ensures c.reaches_itself.ensures c.is_deep.ensures c.in_ok-bad_state.ensures c.first.result c.first.ensures
