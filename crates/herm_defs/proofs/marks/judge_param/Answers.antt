use Rattle.std.proofs.Common.{take}
use Rattle.herm_meaning.specs.Marks.{mark, a_content, parameter_role}
use Rattle.herm_defs.proofs.Judging.{judged, judges-then}
use Rattle.herm_defs.proofs.marks.judge_param.Goals as goal

pub returns : goal.returns
returns c =
    let role = parameter_role c.args.param.now.mode (take c.args.place c.args.names.now) c.args.param.now.field.of.text in
    judges-then c.args.context.now c.args.module_number (mark c.args.param.now.field.name role) (mark c.args.param.now.field.of a_content) c.args.faults.now.items c.push.new.faults.items c.judge_content.new.faults.items
    (judged c.args.context.now c.args.module_number c.args.param.now.field.name role c.param_code-code.result c.args.faults.now.items c.push.new.faults.items c.param_code-code.ensures c.in_ok-push.ensures)
    c.in_ok-judge_content.ensures
