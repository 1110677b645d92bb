use Rattle.std.proofs.Common.{rules}
use Rattle.std.proofs.lemmas.Bool.{eqb-false}
use Rattle.herm_facts.proofs.FactSets.{some-has}
use Rattle.herm_facts.proofs.fact_set.FactSet.is_empty.Goals as goal

pub returns-clause-some : goal.returns-clause-some
returns-clause-some c none = some-has c.args.self.bits (search rules) (eqb-false c.args.self.bits 0 none)
