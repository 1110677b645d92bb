use Rattle.herm_facts.proofs.FactSets.{either-has}
use Rattle.herm_facts.proofs.fact_set.FactSet.either.Goals as goal

pub returns : goal.returns
returns c = either-has c.args.self.bits c.args.other.bits
