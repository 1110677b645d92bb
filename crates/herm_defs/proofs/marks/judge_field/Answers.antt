use Rattle.std.proofs.Common.{take}
use Rattle.herm_meaning.specs.Marks.{mark, a_part, a_content}
use Rattle.herm_defs.proofs.Judging.{judges-then}
use Rattle.herm_defs.proofs.marks.judge_field.Goals as goal

pub returns : goal.returns
returns c =
    judges-then c.args.context.now c.args.module_number (mark c.args.field.now.name (a_part (take c.args.place c.args.names.now))) (mark c.args.field.now.of a_content) c.args.faults.now.items c.judge_part.new.faults.items c.judge_content.new.faults.items c.in_ok-judge_part.ensures.part c.in_ok-judge_content.ensures
