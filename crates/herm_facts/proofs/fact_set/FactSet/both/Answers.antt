use Rattle.herm_facts.proofs.FactSets.{both-has}
use Rattle.herm_facts.proofs.fact_set.FactSet.both.Goals as goal

pub returns : goal.returns
returns c = both-has c.args.self.bits c.args.other.bits
