use Rattle.herm_values.proofs.Walked.{first-rows}
use Rattle.herm_values.proofs.value.Table.first.Goals as goal

pub returns-clause-rows : goal.returns-clause-rows
returns-clause-rows c = first-rows c.args.self.now c.first.result c.first.ensures.place
