use Rattle.herm_facts.proofs.FactSets.{with-has}
use Rattle.herm_facts.proofs.fact_set.FactSet.with.Goals as goal

pub returns : goal.returns
returns c j = with-has c.args.self.bits c.args.number j c.requires
