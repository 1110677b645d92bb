use Rattle.std.proofs.Common.{rules}
use Rattle.herm_facts.proofs.FactSets.{without-has}
use Rattle.herm_facts.proofs.fact_set.FactSet.without.Goals as goal

pub returns : goal.returns
returns c j = without-has c.args.self.bits c.args.other.bits j (search rules) (search rules)
