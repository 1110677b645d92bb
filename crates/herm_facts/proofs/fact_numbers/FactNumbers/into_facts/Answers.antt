use Rattle.herm_facts.specs.FactNumbers.{number_of}
use Rattle.herm_facts.proofs.fact_numbers.FactNumbers.into_facts.Goals as goal

pub returns : goal.returns
unfolding number_of
returns c f n = c.args.self.numbers.listed f n
