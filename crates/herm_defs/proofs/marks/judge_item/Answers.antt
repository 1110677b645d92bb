use Rattle.herm_defs.proofs.Judging.{item-type}
use Rattle.herm_defs.proofs.marks.judge_item.Goals as goal

pub returns-in_ok-judge_type-in-Shaped-clause-judges : goal.returns-in_ok-judge_type-in-Shaped-clause-judges
returns-in_ok-judge_type-in-Shaped-clause-judges c = item-type c.args.context.now c.args.module_number c.args.item.now c.in-Shaped.shape c.args.t c.args.e c.args.faults.now.items c.judge_type.new.faults.items c.in-Shaped.is c.in_ok-judge_type-in-Shaped.ensures
