use Rattle.herm_syntax.specs.View.{shape_form_view}
use Rattle.herm_meaning.specs.Marks.{mark, a_type, shape_marks}
use Rattle.herm_defs.proofs.Judging.{judged, judges-then}
use Rattle.herm_defs.proofs.marks.judge_type.Goals as goal

pub returns : goal.returns
returns c =
    judges-then c.args.context.now c.args.module_number (mark c.args.name.now (a_type c.args.number (shape_form_view c.args.shape.now))) (shape_marks c.args.shape.now) c.args.faults.now.items c.push.new.faults.items c.judge_shape.new.faults.items
    (judged c.args.context.now c.args.module_number c.args.name.now (a_type c.args.number (shape_form_view c.args.shape.now)) c.in_ok-code.code c.args.faults.now.items c.push.new.faults.items c.in_ok-code.ensures c.in_ok-push.ensures)
    c.in_ok-judge_shape.ensures
