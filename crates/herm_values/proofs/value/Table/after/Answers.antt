use Rattle.herm_values.proofs.Walked.{after-rows}
use Rattle.herm_values.proofs.value.Table.after.Goals as goal

pub returns-clause-rows : goal.returns-clause-rows
returns-clause-rows c = after-rows c.args.self.now c.args.node c.after.result c.after.ensures.place
